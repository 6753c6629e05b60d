-- How large a resource's and an area's charge for an interval can be. Assumes nothing.
use Rattle.std.proofs.Common.{ℕ, ◌≤◌, cond, ℤ, pos, ◌-ℤ◌, ◌*ℤ◌, Some, None, Option, int_lt, unsigned_abs, arith}
use Rattle.std.specs.Option.{option_map_or}
use Rattle.std.proofs.lemmas.Int.{ints, int_max_is}
use Rattle.rows.specs.declared.figures.Price.{Price}
use Rattle.rows.specs.declared.dispatch.DispatchType.{DispatchType}
use Rattle.rows.specs.declared.kinds.ResourceKind.{ResourceKind}
use Rattle.rows.specs.declared.area.Election.{Election}
use Rattle.rows.specs.declared.area.SufficiencyTest.{SufficiencyTest}
use Rattle.rows.specs.declared.area.Transfer.{Transfer}
use Rattle.rows.specs.declared.area.Area.{Area}
use Rattle.rows.specs.declared.resource.EnergyRecord.{EnergyRecord}
use Rattle.rows.specs.declared.resource.Resource.{Resource}
use Rattle.rows.specs.Ranges.{most_price, most_energy, most_deemed}
use Rattle.rows.specs.Dispatch.{dispatch_class}
use Rattle.rows.specs.Slots.{quarter_of}
use Rattle.rows.specs.Posted.{test_at, transfer_at, energy_at}
use Rattle.formulas.specs.declared.imbalance.Terms.{Terms}
use Rattle.formulas.specs.Ranges.{most_products, most_charge}
use Rattle.formulas.specs.Working.{most_transfer, most_credit, most_priced, most_product}
use Rattle.formulas.specs.Rounding.{to_cents}
use Rattle.formulas.specs.Dispatch.{dispatch_price, exceptional_dispatch}
use Rattle.formulas.specs.Imbalance.{terms_of, energy_price, residual_price, priced_energy, imbalance_products, imbalance_charge}
use Rattle.formulas.specs.Surcharge.{failed_capacity, transferred, credit, surcharge_quantity, surcharge_pool, area_pool}
use Rattle.formulas.proofs.Bounds.{product_within}

pub cents_within : (z : ℤ) → unsigned_abs z ≤ most_products → unsigned_abs (to_cents z) ≤ most_charge
unfolding to_cents
cents_within z small = grind (arith, ints)

-- energy at a price
priced_within : (p : Price) (z : ℤ) → unsigned_abs z ≤ most_priced → unsigned_abs (p.steps.0 *ℤ z) ≤ most_product
priced_within p z small = product_within p.steps.0 z most_price most_priced p.within small

priced_energy_within : (kind : ResourceKind) (e : EnergyRecord) (deemed : ℤ) → unsigned_abs deemed ≤ most_deemed → unsigned_abs (priced_energy kind e deemed) ≤ most_priced
priced_energy_within kind e deemed small = grind (arith, ints, e.iie.within, e.oa.within, e.mssiie.within, e.above.within)

dispatch_within : (e : EnergyRecord) → unsigned_abs (exceptional_dispatch e) ≤ most_product
unfolding exceptional_dispatch
dispatch_within e = at e.ed
  where
    at : (o : Option DispatchType) → unsigned_abs (option_map_or (λ kind. (dispatch_price (dispatch_class kind) e).steps.0 *ℤ e.edqty.units.0) o (pos 0)) ≤ most_product
    at None = omega arith
    at (Some kind) = let small = e.edqty.within in priced_within (dispatch_price (dispatch_class kind) e) e.edqty.units.0 (omega arith)

products_within : (t : Terms) (e : EnergyRecord) (deemed : ℤ) → unsigned_abs deemed ≤ most_deemed → unsigned_abs (imbalance_products t e deemed) ≤ most_products
unfolding imbalance_products
products_within t e deemed small =
    let residual_energy = e.res.within in
    let priced = priced_within (energy_price t.net e) (priced_energy t.kind e deemed) (priced_energy_within t.kind e deemed small) in
    let residual = priced_within (residual_price t.net e) e.res.units.0 (omega arith) in
    let dispatched = dispatch_within e in
    grind (arith, ints)

-- what a resource is charged
pub imbalance_charge_within : (index : ℕ) (deemed : ℤ) (r : Resource) → unsigned_abs deemed ≤ most_deemed → unsigned_abs (imbalance_charge index deemed r) ≤ most_charge
unfolding imbalance_charge
imbalance_charge_within index deemed r small =
    let products : ℤ = imbalance_products (terms_of r) (energy_at index r) deemed in
    cents_within products (products_within (terms_of r) (energy_at index r) deemed small)

failed_within : (t : SufficiencyTest) → unsigned_abs (failed_capacity t) ≤ most_energy
failed_within t =
    let capacity = t.capacity.within in
    let ramp = t.ramp.within in
    omega (arith, ints, int_max_is t.capacity.kilowatts.0 t.ramp.kilowatts.0)

transferred_within : (t : Transfer) → unsigned_abs (transferred t) ≤ most_transfer
transferred_within t =
    omega (arith, ints, t.to.within, t.to.from_0, t.base_to.within, t.base_to.from_0, t.from.within, t.from.from_0, t.base_from.within, t.base_from.from_0)

credit_within : (e : Election) (t : SufficiencyTest) → unsigned_abs (credit e t) ≤ most_credit
credit_within e t = omega (arith, ints, e.up.within, e.up.from_0, e.nopay.within, e.nopay.from_0, t.nopay.within, t.nopay.from_0)

quantity_within : (e : Election) (test : SufficiencyTest) (transfer : Transfer) → unsigned_abs (surcharge_quantity e test transfer) ≤ most_priced
quantity_within e test transfer =
    let f : ℤ = failed_capacity test in
    let t : ℤ = transferred transfer in
    let c : ℤ = credit e test in
    each f t c (failed_within test) (transferred_within transfer) (credit_within e test)
  where
    each : (f t c : ℤ) → unsigned_abs f ≤ most_energy → unsigned_abs t ≤ most_transfer → unsigned_abs c ≤ most_credit
        → unsigned_abs (cond e.opted_in (cond (int_lt t f) (t -ℤ c) f) (pos 0)) ≤ most_priced
    each f t c small_f small_t small_c = grind (arith, ints)

pool_within : (e : Election) (test : SufficiencyTest) (transfer : Transfer) → unsigned_abs (surcharge_pool e test transfer) ≤ most_charge
unfolding surcharge_pool
pool_within e test transfer =
    let z : ℤ = surcharge_quantity e test transfer in
    let product = product_within e.cap.steps.0 z most_price most_priced e.cap.within (quantity_within e test transfer) in
    cents_within (e.cap.steps.0 *ℤ z) (omega arith)

-- the surcharge of an area
pub area_pool_within : (index : ℕ) (a : Area) → unsigned_abs (area_pool index a) ≤ most_charge
area_pool_within index a = pool_within a.election (test_at (quarter_of index) a) (transfer_at index a)
