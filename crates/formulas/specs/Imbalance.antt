-- CC 6470 (CC: a charge code of the operator), real-time imbalance energy: what a resource is charged for an interval. A deemed
-- energy is a number of units. Assumes nothing.
use Rattle.std.specs.Prelude.{ℕ, Bool, cond, ℤ, pos, neg_ℤ, ◌+ℤ◌, ◌-ℤ◌, ◌*ℤ◌}
use Rattle.rows.specs.declared.figures.Price.{Price}
use Rattle.rows.specs.declared.kinds.ResourceKind.{ResourceKind}
use Rattle.rows.specs.declared.resource.EnergyRecord.{EnergyRecord}
use Rattle.rows.specs.declared.resource.Resource.{Resource}
use Rattle.rows.specs.Kinds.{is_tie}
use Rattle.rows.specs.Posted.{energy_at}
use Rattle.formulas.specs.declared.imbalance.Terms.{Terms}
use Rattle.formulas.specs.Rounding.{to_cents}
use Rattle.formulas.specs.Dispatch.{exceptional_dispatch}

-- on what terms a resource is charged: net, of a metered subsystem that has elected net settlement; exempt, charged nothing
abbrev pub terms_of : Resource → Terms
terms_of r = record { kind = r.kind; net = r.net; exempt = r.exempt }

-- mss, the price of the metered subsystem, where the resource is net, else lmp
abbrev pub energy_price : Bool → EnergyRecord → Price
energy_price net e = cond net e.mss e.lmp

-- of a plain resource oa; of a tie by how much its deemed energy departs from oa, which is then what was expected of it
abbrev pub operational_adjustment : ResourceKind → EnergyRecord → ℤ → ℤ
operational_adjustment kind e deemed = cond (is_tie kind) (deemed -ℤ e.oa.units.0) e.oa.units.0

-- the price of residual energy, res: that of a resource on its way to or from the dispatch of a neighbouring hour
abbrev pub residual_price : Bool → EnergyRecord → Price
residual_price net e = cond e.resflag e.resprice (energy_price net e)

-- the energy that has the energy price
abbrev pub priced_energy : ResourceKind → EnergyRecord → ℤ → ℤ
priced_energy kind e deemed =
    e.iie.units.0 +ℤ operational_adjustment kind e deemed +ℤ e.mssiie.units.0 +ℤ e.above.units.0

-- what is charged, in products: a delivery is paid
unfoldable pub imbalance_products : Terms → EnergyRecord → ℤ → ℤ
imbalance_products t e deemed =
    let priced = (energy_price t.net e).steps.0 *ℤ priced_energy t.kind e deemed in
    let residual = (residual_price t.net e).steps.0 *ℤ e.res.units.0 in
    cond t.exempt (pos 0) (neg_ℤ (priced +ℤ residual +ℤ exceptional_dispatch e))

-- and in cents
unfoldable pub imbalance_charge : ℕ → ℤ → Resource → ℤ
imbalance_charge index deemed r = to_cents (imbalance_products (terms_of r) (energy_at index r) deemed)
