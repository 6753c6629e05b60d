use Rattle.std.proofs.Common.{◌≡◌, ℕ, List, map, true, false, pos, Ok, Err, refl, ap, ◌∙◌, rules}
use Rattle.std.specs.Result.{MatchResult}
use Rattle.std.proofs.lemmas.Result.{err_from_is_err_and, MatchResult-weaker}
use Rattle.sharing.specs.declared.outcome.SharingFault.TheVariants.{NoWeight}
use Rattle.tables.specs.declared.refusal.Reason.TheVariants.{NoDemand}
use Rattle.rows.specs.declared.area.Area.{Area}
use Rattle.rows.specs.Kinds.{is_ciso}
use Rattle.records.specs.Ranges.{most_parties}
use Rattle.charges.specs.Columns.{parties_in, cents_in, weights}
use Rattle.charges.specs.Faults.{fault_at, interval_number}
use Rattle.charges.specs.Parts.{GivenTo}
use Rattle.charges.proofs.Answered.{Answered, answered}
use Rattle.charges.proofs.AreasSoFar.{one_shared, one_passed, one_refused, cents_of_none}
use Rattle.charges.proofs.offset.share_offset.Given.{Over}
use Rattle.charges.proofs.offset.share_offset.Goals as goal
use Rattle.charges.proofs.offset.share_offset.Goals.{After-map_err}

-- what is known of the CISO area, whatever was answered
area_shared : (g : Over) (c : After-map_err g)
    → Answered c.args.pool.0 (weights c.args.interval.index c.area-item.result c.args.parties.now)
    (GivenTo c.area-item.result.id c.args.parties.now (g.R.SharingRule.shares c.args.rule.now c.args.pool.0 (weights c.args.interval.index c.area-item.result c.args.parties.now)) c.loop-area.column c.share_in_area.new.column)
    (fault_at NoDemand NoWeight (interval_number c.args.interval.index) c.area-item.result.id) c.map_err.result
area_shared g c =
    let index : ℕ = c.args.interval.index in
    let x : Area = c.area-item.result in
    let answers : MatchResult c.share_in_area.result (λ y. c.map_err.result ≡ Ok y) (λ f. c.map_err.result ≡ Err (fault_at NoDemand f.0 (interval_number index) x.id)) =
    MatchResult-weaker c.share_in_area.result c.map_err.ensures.cases (λ y is. is) (λ f is. let p = err_from_is_err_and c.map_err.result is in p.1 ∙ ap Err (search rules)) in
    answered NoDemand (interval_number index) x.id c.args.pool.0 (weights index x c.args.parties.now) _ c.share_in_area.result c.map_err.result answers c.share_in_area.ensures.outcome

pub loop-area-preserved-then-not-is_ciso : goal.loop-area-preserved-then-not-is_ciso
loop-area-preserved-then-not-is_ciso g c =
    let x : Area = c.area-item.result in
    let weim : is_ciso x.kind ≡ false = search rules in
    let nothing = cents_of_none x.id c.args.parties.now most_parties c.requires.few in
    let before : cents_in x.id c.args.parties.now c.args.column.now ≡ map (λ _. pos 0) (parties_in x.id c.args.parties.now) =
    ap (cents_in x.id c.args.parties.now) c.requires.empty ∙ nothing in
    one_passed x c.loop-area-test.true c.area-item.is c.loop-area.invariant c.requires.distinct (rw weim refl) (rw weim before)

pub loop-area-preserved : goal.loop-area-preserved
loop-area-preserved g c =
    let x : Area = c.area-item.result in
    let ws : List ℕ = weights c.args.interval.index x c.args.parties.now in
    let ciso : is_ciso x.kind ≡ true = search rules in
    let done = rw c.in_ok-map_err.was at (area_shared g (goal.at.loop-area-preserved g c).After-map_err) in
    one_shared x c.loop-area-test.true c.area-item.is c.loop-area.invariant c.requires.distinct (rw ciso done.0) c.share_in_area.new.column (g.R.SharingRule.shares c.args.rule.now c.args.pool.0 ws) (rw ciso refl) done.1

pub returns-in_err-map_err : goal.returns-in_err-map_err
returns-in_err-map_err g c =
    let x : Area = c.area-item.result in
    let ciso : is_ciso x.kind ≡ true = search rules in
    let why = rw c.in_err-map_err.was at (area_shared g (goal.at.returns-in_err-map_err g c).After-map_err) in
    let p = err_from_is_err_and c.from_residual.result c.from_residual.ensures.1 in
    rw (p.1, p.2, why.1) (one_refused x c.loop-area-test.true c.area-item.is c.loop-area.invariant (rw ciso why.0))
