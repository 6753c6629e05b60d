use Rattle.std.proofs.Common.{reverse, Ok, Err, ap, ◌∙◌, w64}
use Rattle.std.proofs.lemmas.Result.{err_from_is_err_and}
use Rattle.std.proofs.lemmas.Int.{to_z-of_z}
use Rattle.sharing.proofs.Hands.{shared_as}
use Rattle.backward.proofs.Turned.{within_back, shareable_back, refused_back, turned_items}
use Rattle.backward.proofs.BackwardSharingRule.share.Goals as goal

pub returns-in_err-answer : goal.returns-in_err-answer
returns-in_err-answer g c =
    let p = err_from_is_err_and c.from_residual.result c.from_residual.ensures.1 in
    let turned = turned_items c.in-Ok.turned _ _ _ c.deref.ensures.0 (c.reverse.ensures.after ∙ ap reverse c.deref_mut.ensures.value) c.in-Ok.ensures.0 in
    let s = shared_as (g.R.SharingRule.shares c.args.self.now.0) (Err c.in_err-answer.field-0.0) _ _ _ _ (to_z-of_z w64 c.args.pool c.ranges.pool) turned c.in_err-answer.ensures in
    rw (p.1, p.2) (refused_back c.args.pool c.args.weights.now c.in_err-answer.field-0.0 s)

pub returns : goal.returns
returns g c =
    let turned = turned_items c.in-Ok.turned _ _ _ c.deref.ensures.0 (c.reverse.ensures.after ∙ ap reverse c.deref_mut.ensures.value) c.in-Ok.ensures.0 in
    let s = shared_as (g.R.SharingRule.shares c.args.self.now.0) (Ok c.in_ok-answer.answer) _ _ _ _ (to_z-of_z w64 c.args.pool c.ranges.pool) turned c.in_ok-answer.ensures in
    (within_back c.args.pool c.args.weights.now s.0, shareable_back c.args.pool c.args.weights.now s.1, c.reversed.ensures ∙ ap reverse (c.as_slice.ensures ∙ s.2))
