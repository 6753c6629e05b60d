use Rattle.std.proofs.Common.{◌≡◌, length, ap, ◌∙◌}
use Rattle.std.proofs.lemmas.Result.{err_from_is_err_and}
use Rattle.std.proofs.lemmas.List.{take_at}
use Rattle.charges.proofs.Limits.{within_limits}
use Rattle.charges.specs.Claims.{claims_in}
use Rattle.charges.proofs.SharedParts.{shared_in_area, refused_in_area}
use Rattle.charges.proofs.shared.share_in_area.Goals as goal

pub returns-in_err-share_out : goal.returns-in_err-share_out
returns-in_err-share_out g c =
    let p = err_from_is_err_and c.from_residual.result c.from_residual.ensures.1 in
    let are : c.deref_mut.result.now ≡ claims_in c.args.interval.index c.args.area.now c.args.parties.now = c.deref_mut.ensures.value ∙ c.claims_of-claims.ensures in
    rw p.1 (refused_in_area are _ p.0 c.args.column.now _ p.2 (within_limits c.args.interval.index c.args.pool.0 c.args.area.now c.args.parties.now c.requires.within c.requires.few) c.in_err-share_out.ensures)

pub returns : goal.returns
returns g c =
    let are : c.deref_mut.result.now ≡ claims_in c.args.interval.index c.args.area.now c.args.parties.now = c.deref_mut.ensures.value ∙ c.claims_of-claims.ensures in
    let given : c.deref.result.now ≡ c.share_out.new.to = c.deref.ensures.0 ∙ take_at _ _ _ (c.share_out.auto.to ∙ ap length c.deref_mut.ensures.value) in
    shared_in_area are (g.met.R.SharingRule.lawful c.args.rule.now) tt c.args.column.now c.put_shares.new.column c.share_out.new.to c.in_ok-share_out.ensures (rw (← given) c.put_shares.ensures)
