use Rattle.std.proofs.Common.{◌≡◌, ℕ, List, true, false, Ok, Err, sym, ap, ◌∙◌, rules}
use Rattle.std.specs.Result.{MatchResult}
use Rattle.std.proofs.lemmas.Result.{err_from_is_err_and, MatchResult-weaker}
use Rattle.sharing.specs.declared.outcome.SharingFault.TheVariants.{NoWeight}
use Rattle.tables.specs.declared.refusal.Reason.TheVariants.{NoSurchargeWeight}
use Rattle.rows.specs.declared.area.Area.{Area}
use Rattle.formulas.specs.Surcharge.{area_pool}
use Rattle.charges.specs.Columns.{weights}
use Rattle.charges.specs.Faults.{fault_at, interval_number, unshareable}
use Rattle.charges.specs.Parts.{GivenTo}
use Rattle.charges.proofs.Answered.{Answered, answered}
use Rattle.charges.proofs.AreasSoFar.{one_shared, one_refused}
use Rattle.charges.proofs.surcharges.share_surcharges.Given.{Over}
use Rattle.charges.proofs.surcharges.share_surcharges.Goals as goal
use Rattle.charges.proofs.surcharges.share_surcharges.Goals.{After-map_err}

-- what is known of the area, whatever was answered
area_shared : (g : Over) (c : After-map_err g)
    → Answered c.area_pool-pool.result.0 (weights c.args.interval.index c.area-item.result c.args.parties.now)
    (GivenTo c.area-item.result.id c.args.parties.now (g.R.SharingRule.shares c.args.rule.now c.area_pool-pool.result.0 (weights c.args.interval.index c.area-item.result c.args.parties.now)) c.loop-area.column c.share_in_area.new.column)
    (fault_at NoSurchargeWeight NoWeight (interval_number c.args.interval.index) c.area-item.result.id) c.map_err.result
area_shared g c =
    let index : ℕ = c.args.interval.index in
    let x : Area = c.area-item.result in
    let answers : MatchResult c.share_in_area.result (λ y. c.map_err.result ≡ Ok y) (λ f. c.map_err.result ≡ Err (fault_at NoSurchargeWeight f.0 (interval_number index) x.id)) =
    MatchResult-weaker c.share_in_area.result c.map_err.ensures.cases (λ y is. is) (λ f is. let p = err_from_is_err_and c.map_err.result is in p.1 ∙ ap Err (search rules)) in
    answered NoSurchargeWeight (interval_number index) x.id c.area_pool-pool.result.0 (weights index x c.args.parties.now) _ c.share_in_area.result c.map_err.result answers c.share_in_area.ensures.outcome

pub loop-area-preserved : goal.loop-area-preserved
loop-area-preserved g c =
    let index : ℕ = c.args.interval.index in
    let x : Area = c.area-item.result in
    let ws : List ℕ = weights index x c.args.parties.now in
    let pool = c.area_pool-pool.ensures.value in
    let done = rw c.in_ok-map_err.was at (area_shared g (goal.at.loop-area-preserved g c).After-map_err) in
    let fits : unshareable (area_pool index x) ws ≡ false = ap (λ z. unshareable z ws) (sym pool) ∙ done.0 in
    one_shared x c.loop-area-test.true c.area-item.is c.loop-area.invariant c.requires.distinct fits c.share_in_area.new.column _ (ap (λ z. g.R.SharingRule.shares c.args.rule.now z ws) pool) done.1

pub returns-in_err-map_err : goal.returns-in_err-map_err
returns-in_err-map_err g c =
    let index : ℕ = c.args.interval.index in
    let x : Area = c.area-item.result in
    let ws : List ℕ = weights index x c.args.parties.now in
    let why = rw c.in_err-map_err.was at (area_shared g (goal.at.returns-in_err-map_err g c).After-map_err) in
    let fits : unshareable (area_pool index x) ws ≡ true = ap (λ z. unshareable z ws) (sym c.area_pool-pool.ensures.value) ∙ why.0 in
    let p = err_from_is_err_and c.from_residual.result c.from_residual.ensures.1 in
    rw (p.1, p.2, why.1) (one_refused x c.loop-area-test.true c.area-item.is c.loop-area.invariant fits)
