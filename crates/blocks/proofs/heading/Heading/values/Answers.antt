use Rattle.blocks.proofs.Readings.{nothing_read, next_inside, value_read, cut_short, misfit, all_read}
use Rattle.blocks.proofs.heading.Heading.values.Goals as goal

pub loop-place-init : goal.loop-place-init
loop-place-init c =
    rw (c.of-words.ensures, c.into_iter-place-iterator.ensures.into_iter_gives.0)
    (nothing_read c.self.invariant.0 c.self.invariant.1 c.none-values.ensures.numbers c.none-values.ensures.word)

pub put-requires : goal.put-requires
put-requires c = next_inside c.loop-place.invariant c.in-Some.ensures.steps

pub returns-in_err-next : goal.returns-in_err-next
returns-in_err-next c =
    rw (c.from_residual.ensures, ← c.self.view_is)
    (cut_short c.loop-place.invariant c.in-Some.ensures.steps c.in_err-next.ensures.steps.0)

pub returns-in_err-put : goal.returns-in_err-put
returns-in_err-put c =
    rw (c.from_residual-in_err-put.ensures, ← c.self.view_is)
    (misfit c.loop-place.invariant c.in-Some.ensures.steps c.in_ok-next.ensures.steps c.in_err-put.ensures)

pub loop-place-preserved : goal.loop-place-preserved
loop-place-preserved c = value_read c.loop-place.invariant c.in-Some.ensures.steps c.in_ok-next.ensures.steps c.in_ok-put.ensures

pub returns : goal.returns
returns c =
    rw (c.then_some.ensures, ← c.self.view_is)
    (all_read c.loop-place.invariant c.in-None.ensures.steps.0 c.next-2.result c.is_none.result _ c.next-2.ensures.steps c.is_none.ensures)
