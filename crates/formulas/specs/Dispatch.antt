-- The price of exceptional dispatches. Assumes nothing.
use Rattle.std.specs.Prelude.{cond, ℤ, pos, ◌*ℤ◌, int_lt}
use Rattle.std.specs.Option.{option_map_or}
use Rattle.rows.specs.declared.figures.Price.{Price}
use Rattle.rows.specs.declared.dispatch.DispatchClass.{DispatchClass}
use Rattle.rows.specs.declared.dispatch.DispatchClass.TheVariants.{First, Second}
use Rattle.rows.specs.declared.resource.EnergyRecord.{EnergyRecord}
use Rattle.rows.specs.Dispatch.{dispatch_class}

-- the lower and the higher of two prices
abbrev pub lower : Price → Price → Price
lower p q = cond (int_lt q.steps.0 p.steps.0) q p

abbrev pub higher : Price → Price → Price
higher p q = cond (int_lt p.steps.0 q.steps.0) q p

-- more energy has lmp in the first class, and in the second the higher of lmp and edprice
abbrev pub incremental_price : DispatchClass → EnergyRecord → Price
incremental_price First e = e.lmp
incremental_price Second e = higher e.lmp e.edprice

-- less energy has the lower of the two in either class
abbrev pub dispatch_price : DispatchClass → EnergyRecord → Price
dispatch_price class e = cond (int_lt e.edqty.units.0 (pos 0)) (lower e.lmp e.edprice) (incremental_price class e)

-- the energy at its price, in products; nothing where there is no type
unfoldable pub exceptional_dispatch : EnergyRecord → ℤ
exceptional_dispatch e = option_map_or (λ kind. (dispatch_price (dispatch_class kind) e).steps.0 *ℤ e.edqty.units.0) e.ed (pos 0)
