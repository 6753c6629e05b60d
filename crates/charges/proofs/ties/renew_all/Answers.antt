use Rattle.std.proofs.Common.{◌≡◌, Ok, Err, pos, ap, ◌∙◌, rules, arith}
use Rattle.std.specs.Result.{MatchResult}
use Rattle.std.proofs.lemmas.Result.{err_from_is_err_and, MatchResult-weaker}
use Rattle.tables.specs.declared.refusal.Reason.TheVariants.{NoTieWeight}
use Rattle.tables.proofs.Firsts.{none_more, first_here}
use Rattle.charges.specs.Energies.{new_energies}
use Rattle.charges.specs.Faults.{tie_fault, fault_at}
use Rattle.charges.proofs.Filling.{filled_more}
use Rattle.charges.proofs.Renewing.{RenewedOne, renewed_one}
use Rattle.charges.proofs.ties.renew_all.Given.{Over}
use Rattle.charges.proofs.ties.renew_all.Goals as goal
use Rattle.charges.proofs.ties.renew_all.Goals.{After-map_err}

-- what is known of the tie, whatever was answered
tie_renewed : (g : Over) (c : After-map_err g) → RenewedOne (g.R.SharingRule.shares c.args.rule.now) c.index-resources-i.result c.renew.new.energies c.map_err.result
tie_renewed g c =
    let tie = c.index-resources-i.result in
    let answers : MatchResult c.renew.result (λ x. c.map_err.result ≡ Ok x) (λ f. c.map_err.result ≡ Err (fault_at NoTieWeight f.0 (pos 0) tie.id)) =
    MatchResult-weaker c.renew.result c.map_err.ensures.cases (λ x is. is) (λ f is. let p = err_from_is_err_and c.map_err.result is in p.1 ∙ ap Err (search rules)) in
    renewed_one (g.R.SharingRule.shares c.args.rule.now) tie _ _ c.renew.result c.map_err.result answers c.renew.ensures

pub returns-in_err-map_err : goal.returns-in_err-map_err
returns-in_err-map_err g c =
    let one = rw c.in_err-map_err.was at (tie_renewed g (goal.at.returns-in_err-map_err g c).After-map_err) in
    let p = err_from_is_err_and c.from_residual.result c.from_residual.ensures.1 in
    rw (p.1, p.2, one.1)
    (first_here tie_fault c.args.resources.now c.loop-i.i c.index-resources-i.result c.loop-i-test.true c.index-resources-i.is c.loop-i.invariant.none_yet one.0)

pub loop-i-preserved : goal.loop-i-preserved
loop-i-preserved g c =
    let tie = c.index-resources-i.result in
    let energies = new_energies (g.R.SharingRule.shares c.args.rule.now) in
    let one = rw c.in_ok-map_err.was at (tie_renewed g (goal.at.loop-i-preserved g c).After-map_err) in
    record {
      none_yet = none_more tie_fault c.args.resources.now c.loop-i.i tie c.loop-i-test.true c.index-resources-i.is c.loop-i.invariant.none_yet one.0;
      made = filled_more energies c.args.resources.now c.args.table.now c.loop-i.table c.loop-i.i tie c.renew.new.energies c.loop-i-test.true (omega arith)
          c.loop-i.invariant.made (one.1 ∙ ap energies c.index-resources-i.is);
    }
