use Rattle.std.proofs.Common.{◌≡◌, ℕ, List, map, ◌++◌, length, drop, replicate, Some, None, Ok, Err, refl, ap, subst, ◌∙◌, arith}
use Rattle.std.proofs.lemmas.List.{length-set}
use Rattle.std.proofs.lemmas.Result.{err_from_is_err_and}
use Rattle.tables.specs.Refusals.{Fit, first_fit}
use Rattle.tables.proofs.Firsts.{first_fit-append, first_fit-front}
use Rattle.deemed.specs.Ranges.{hour_length}
use Rattle.rows.specs.declared.figures.DeemedEnergy.{DeemedEnergy}
use Rattle.rows.specs.declared.resource.Resource.{Resource}
use Rattle.rows.specs.Figures.{as_deemed, no_units}
use Rattle.records.specs.View.{Hour}
use Rattle.records.specs.Ranges.{most_resources}
use Rattle.charges.specs.declared.fault.ChargeFault.{ChargeFault}
use Rattle.charges.specs.declared.amounts.IntervalAmounts.{IntervalAmounts}
use Rattle.charges.specs.declared.amounts.HourAmounts.{HourAmounts}
use Rattle.charges.specs.Energies.{new_energies}
use Rattle.charges.specs.Faults.{tie_fault, interval_faults}
use Rattle.charges.specs.Charged.{IntervalCharged, HourCharged, renewed}
use Rattle.charges.proofs.Hours.{so_far, none_at_next, first_at, hour_charged, hour_laws, in_hour, placed}
use Rattle.charges.proofs.work.work_out.Goals as goal

pub returns-in_err-renew_all : goal.returns-in_err-renew_all
returns-in_err-renew_all g c =
    let h : Hour = c.args.records.now in
    let p = err_from_is_err_and c.from_residual.result c.from_residual.ensures.1 in
    let faults : ℕ → List (Fit ChargeFault) = interval_faults h.areas.rows h.parties.rows (renewed (g.R.SharingRule.shares c.args.rule.now) h) in
    let first : first_fit (map tie_fault h.resources.rows) ≡ Some c.in_err-renew_all.field-0.0 =
    subst (λ l. first_fit (map tie_fault l) ≡ Some c.in_err-renew_all.field-0.0) c.resources.ensures.rows c.in_err-renew_all.ensures in
    rw (p.1, p.2) (first_fit-front (map tie_fault h.resources.rows) (so_far faults hour_length) c.in_err-renew_all.field-0.0 first)

pub loop-index-init : goal.loop-index-init
loop-index-init g c = (refl, refl, λ k low. absurd (omega arith))

pub returns-in_err-intervals : goal.returns-in_err-intervals
returns-in_err-intervals g c =
    let h : Hour = c.args.records.now in
    let p = err_from_is_err_and c.from_residual-in_err-intervals.result c.from_residual-in_err-intervals.ensures.1 in
    let faults : ℕ → List (Fit ChargeFault) = interval_faults h.areas.rows h.parties.rows (renewed (g.R.SharingRule.shares c.args.rule.now) h) in
    let ties : first_fit (map tie_fault h.resources.rows) ≡ None = subst (λ l. first_fit (map tie_fault l) ≡ None) c.resources.ensures.rows c.in_ok-renew_all.ensures.0 in
    let index : ℕ = c.loop-index.index in
    let f : ChargeFault = c.in_err-intervals.field-0.0 in
    let here = in_hour (g.R.SharingRule.shares c.args.rule.now) h _ c.areas.ensures.rows c.parties.ensures.rows c.resources.ensures.rows c.resources-in-loop-index.ensures.rows c.in_ok-renew_all.ensures.1 index (Err f) c.in_err-intervals.ensures in
    rw (p.1, p.2) (first_fit-append (map tie_fault h.resources.rows) (so_far faults hour_length) ties ∙ first_at faults hour_length index f c.loop-index-test.true c.loop-index.invariant.1 here)

pub loop-index-preserved : goal.loop-index-preserved
loop-index-preserved g c =
    let h : Hour = c.args.records.now in
    let shares = g.R.SharingRule.shares c.args.rule.now in
    let resources : List Resource = renewed shares h in
    let faults : ℕ → List (Fit ChargeFault) = interval_faults h.areas.rows h.parties.rows resources in
    let index : ℕ = c.loop-index.index in
    let x : IntervalAmounts = c.in_ok-intervals.field-0 in
    let here = in_hour shares h _ c.areas.ensures.rows c.parties.ensures.rows c.resources.ensures.rows c.resources-in-loop-index.ensures.rows c.in_ok-renew_all.ensures.1 index (Ok x) c.in_ok-intervals.ensures in (
      length-set c.loop-index.intervals index x ∙ c.loop-index.invariant.0,
      none_at_next faults index c.loop-index.invariant.1 here.0,
      placed (IntervalCharged shares h.areas.rows h.parties.rows resources) c.loop-index.intervals index x (omega (arith, c.loop-index.invariant.0)) c.loop-index.invariant.2 here.1,
    )

pub returns : goal.returns
returns g c =
    let h : Hour = c.args.records.now in
    let shares = g.R.SharingRule.shares c.args.rule.now in
    let faults : ℕ → List (Fit ChargeFault) = interval_faults h.areas.rows h.parties.rows (renewed shares h) in
    let ties : first_fit (map tie_fault h.resources.rows) ≡ None = subst (λ l. first_fit (map tie_fault l) ≡ None) c.resources.ensures.rows c.in_ok-renew_all.ensures.0 in
    let all : c.loop-index.index ≡ hour_length = omega arith in
    let none : first_fit (so_far faults hour_length) ≡ None = subst (λ n. first_fit (so_far faults n) ≡ None) all c.loop-index.invariant.1 in
    let a : HourAmounts = record { deemed = c.renew_all.new.table; intervals = c.loop-index.intervals } in
    let zeros : DeemedEnergy → List (List DeemedEnergy) = λ e. replicate most_resources (replicate hour_length e) in
    let filled : List Resource → DeemedEnergy → List (List DeemedEnergy) = λ rows e. map (new_energies shares) rows ++ drop (length rows) (zeros e) in
    let table : a.deemed ≡ filled h.resources.rows (as_deemed no_units) =
    c.in_ok-renew_all.ensures.1 ∙ ap (λ rows. filled rows c.zero.result) c.resources.ensures.rows ∙ ap (filled h.resources.rows) c.zero.ensures in
    let unrefused = first_fit-append (map tie_fault h.resources.rows) (so_far faults hour_length) ties ∙ none in
    let charged : HourCharged shares h a = hour_charged (g.met.R.SharingRule.lawful c.args.rule.now) h c.resources.ensures.sound a table (λ index low. c.loop-index.invariant.2 index (omega arith)) in
    (unrefused, charged, hour_laws (g.met.R.SharingRule.lawful c.args.rule.now) h c.resources.ensures.sound unrefused a charged)
