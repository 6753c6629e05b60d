use Rattle.std.proofs.Common.{Ok}
use Rattle.std.proofs.lemmas.Result.{err_from_is_err_and}
use Rattle.deemed.proofs.SharedHour.{shared_hour, refused_hour, shared_by_tags}
use Rattle.deemed.proofs.hour.TieHour.share.Goals as goal

pub returns-in_err-share_out-clause-shared : goal.returns-in_err-share_out-clause-shared
returns-in_err-share_out-clause-shared g c =
    let p = err_from_is_err_and c.from_residual.result c.from_residual.ensures.1 in
    rw p.1 (refused_hour _ p.0 p.2 c.in_err-share_out.ensures)

pub returns-in_err-share_out-clause-of_tags : goal.returns-in_err-share_out-clause-of_tags
returns-in_err-share_out-clause-of_tags g c = shared_by_tags _ (returns-in_err-share_out-clause-shared g c)

pub returns-clause-shared : goal.returns-clause-shared
returns-clause-shared g c = shared_hour tt (λ p ws. g.met.R.SharingRule.lawful _ p ws) c.in_ok-share_out.ensures

pub returns-clause-of_tags : goal.returns-clause-of_tags
returns-clause-of_tags g c = shared_by_tags (Ok tt) (returns-clause-shared g c)
