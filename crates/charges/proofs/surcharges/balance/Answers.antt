use Rattle.std.proofs.Common.{◌≡◌, ℕ, get_or, ap, ◌∙◌, arith}
use Rattle.std.proofs.lemmas.Int.{ints}
use Rattle.rows.specs.declared.area.Area.{Area}
use Rattle.formulas.specs.Surcharge.{area_pool}
use Rattle.charges.proofs.Adding.{total_more}
use Rattle.charges.proofs.surcharges.balance.Goals as goal

pub loop-area-preserved : goal.loop-area-preserved
loop-area-preserved c =
    let index : ℕ = c.args.interval.index in
    let x : Area = c.area-item.result in
    let more = total_more (area_pool index) c.args.areas.now c.loop-area.area-index x c.loop-area-test.true in
    let pool : c.area_pool.result.0 ≡ area_pool index (get_or c.args.areas.now c.loop-area.area-index x) =
    c.area_pool.ensures.value ∙ ap (area_pool index) c.area-item.is in
    record { value = omega (arith, ints, more, pool); within = omega (arith, ints) }
