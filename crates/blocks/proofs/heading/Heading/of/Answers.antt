use Rattle.std.proofs.Common.{sym, ◌∙◌, arith}
use Rattle.blocks.proofs.Heads.{long_heads_nothing, none_placed, unknown_name, repeated_name, name_placed, room, all_placed}
use Rattle.blocks.proofs.heading.Heading.of.Goals as goal

pub returns-then-line-gt-LONGEST_LINE : goal.returns-then-line-gt-LONGEST_LINE
returns-then-line-gt-LONGEST_LINE c = sym (long_heads_nothing c.args.line.now c.if-line-gt-LONGEST_LINE.true)

pub loop-name-init : goal.loop-name-init
loop-name-init c =
    rw (c.new-columns.ensures, c.into_iter-name-iterator.ensures.into_iter_gives, c.of-name-items.ensures)
    (none_placed (sym c.of.ensures ∙ c.in_ok-next.ensures.steps) (sym c.in_ok-block.ensures.block))

pub returns-in_err-place : goal.returns-in_err-place
returns-in_err-place c =
    let nothing = unknown_name c.loop-name.invariant c.in-Some.ensures.steps (sym c.in_err-place.ensures) in
    c.from_residual-in_err-place.ensures ∙ sym nothing

pub returns-then-contains : goal.returns-then-contains
returns-then-contains c =
    let there = sym (rw c.deref.ensures.0 at c.if-contains.ensures.value) in
    sym (repeated_name c.loop-name.invariant c.in-Some.ensures.steps (sym c.in_ok-place.ensures) there)

pub push-requires : goal.push-requires
push-requires c =
    let new = sym (rw c.deref.ensures.0 at c.if-contains.ensures.value) in
    (omega arith, room c.loop-name.invariant c.in-Some.ensures.steps (sym c.in_ok-place.ensures) new)

pub loop-name-preserved : goal.loop-name-preserved
loop-name-preserved c =
    let new = sym (rw c.deref.ensures.0 at c.if-contains.ensures.value) in
    rw c.push.ensures.items (name_placed c.loop-name.invariant c.in-Some.ensures.steps (sym c.in_ok-place.ensures) new)

pub returns : goal.returns
returns c = sym (all_placed c.loop-name.invariant c.if-line-gt-LONGEST_LINE.false c.in-None.ensures.steps.0)
