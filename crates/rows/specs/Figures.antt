-- The figures of records: which quantities are in range, and the figures that these are. Assumes nothing.
use Rattle.std.specs.Prelude.{◌≡◌, ℕ, Bool, true, false, cond, ℤ, pos, neg_ℤ, unsigned_abs, ◌≤◌, ◌≤ℤ◌, refl}
use Rattle.std.proofs.Common.{arith}
use Rattle.std.proofs.lemmas.Int.{ints}
use Rattle.tables.specs.Ranges.{in_range, within}
use Rattle.deemed.specs.declared.quantities.Kilowatts.{Kilowatts}
use Rattle.deemed.specs.declared.quantities.Units.{Units}
use Rattle.rows.specs.Ranges.{most_price, most_energy, most_deemed, most_given}
use Rattle.rows.specs.declared.figures.BidCap.{BidCap}
use Rattle.rows.specs.declared.figures.Cents.{Cents}
use Rattle.rows.specs.declared.figures.DeemedEnergy.{DeemedEnergy}
use Rattle.rows.specs.declared.figures.Energy.{Energy}
use Rattle.rows.specs.declared.figures.GivenAmount.{GivenAmount}
use Rattle.rows.specs.declared.figures.Power.{Power}
use Rattle.rows.specs.declared.figures.Price.{Price}
use Rattle.rows.specs.declared.figures.PriceSteps.{PriceSteps}
use Rattle.rows.specs.declared.figures.UnsignedEnergy.{UnsignedEnergy}

-- no more than so much, of either sign, and never below 0
abbrev pub either_way : ℕ → ℤ → Bool
either_way most z = in_range (neg_ℤ (pos most)) (pos most) z

abbrev pub from_0_to : ℕ → ℤ → Bool
from_0_to most z = in_range (pos 0) (pos most) z

abbrev pub is_price : PriceSteps → Bool
is_price steps = either_way most_price steps.0

abbrev pub is_cap : PriceSteps → Bool
is_cap steps = from_0_to most_price steps.0

abbrev pub is_energy : Units → Bool
is_energy units = either_way most_energy units.0

abbrev pub is_unsigned : Units → Bool
is_unsigned units = from_0_to most_energy units.0

abbrev pub is_power : Kilowatts → Bool
is_power kilowatts = from_0_to most_energy kilowatts.0

abbrev pub is_deemed : Units → Bool
is_deemed units = either_way most_deemed units.0

abbrev pub is_given : Cents → Bool
is_given cents = either_way most_given cents.0

-- a number in its range, and 0 for any other
abbrev pub or_0 : Bool → ℤ → ℤ
or_0 is_inside z = cond is_inside z (pos 0)

-- it is in the range, where 0 is
inside_or_0 : (low high z : ℤ) → low ≤ℤ pos 0 → pos 0 ≤ℤ high
    → (low ≤ℤ or_0 (in_range low high z) z) × (or_0 (in_range low high z) z ≤ℤ high)
inside_or_0 low high z below above = at (in_range low high z) refl
  where
    at : (b : Bool) → in_range low high z ≡ b → (low ≤ℤ or_0 b z) × (or_0 b z ≤ℤ high)
    at true e = within low high z e
    at false e = (below, above)

pub either_way_within : (most : ℕ) (z : ℤ) → unsigned_abs (or_0 (either_way most z) z) ≤ most
either_way_within most z =
    let w = inside_or_0 (neg_ℤ (pos most)) (pos most) z (grind (arith)) (grind (arith)) in
    let from = w.0 in
    let to = w.1 in
    omega (arith, ints)

pub never_below_0 : (most : ℕ) (z : ℤ) → pos 0 ≤ℤ or_0 (from_0_to most z) z
never_below_0 most z = (inside_or_0 (pos 0) (pos most) z (grind (arith)) (grind (arith))).0

pub from_0_within : (most : ℕ) (z : ℤ) → unsigned_abs (or_0 (from_0_to most z) z) ≤ most
from_0_within most z =
    let w = inside_or_0 (pos 0) (pos most) z (grind (arith)) (grind (arith)) in
    let from = w.0 in
    let to = w.1 in
    omega (arith, ints)

-- the figure that a quantity in its range is
unfoldable pub as_price : PriceSteps → Price
as_price steps = record {
  steps = record { 0 = or_0 (is_price steps) steps.0 };
  within = either_way_within most_price steps.0;
}

unfoldable pub as_cap : PriceSteps → BidCap
as_cap steps = record {
  steps = record { 0 = or_0 (is_cap steps) steps.0 };
  from_0 = never_below_0 most_price steps.0;
  within = from_0_within most_price steps.0;
}

unfoldable pub as_energy : Units → Energy
as_energy units = record {
  units = record { 0 = or_0 (is_energy units) units.0 };
  within = either_way_within most_energy units.0;
}

unfoldable pub as_unsigned : Units → UnsignedEnergy
as_unsigned units = record {
  units = record { 0 = or_0 (is_unsigned units) units.0 };
  from_0 = never_below_0 most_energy units.0;
  within = from_0_within most_energy units.0;
}

unfoldable pub as_power : Kilowatts → Power
as_power kilowatts = record {
  kilowatts = record { 0 = or_0 (is_power kilowatts) kilowatts.0 };
  from_0 = never_below_0 most_energy kilowatts.0;
  within = from_0_within most_energy kilowatts.0;
}

unfoldable pub as_deemed : Units → DeemedEnergy
as_deemed units = record {
  units = record { 0 = or_0 (is_deemed units) units.0 };
  within = either_way_within most_deemed units.0;
}

unfoldable pub as_given : Cents → GivenAmount
as_given cents = record {
  cents = record { 0 = or_0 (is_given cents) cents.0 };
  within = either_way_within most_given cents.0;
}

-- no quantity
abbrev pub no_steps : PriceSteps
no_steps = record { 0 = pos 0 }

abbrev pub no_units : Units
no_units = record { 0 = pos 0 }

abbrev pub no_kilowatts : Kilowatts
no_kilowatts = record { 0 = pos 0 }

abbrev pub no_cents : Cents
no_cents = record { 0 = pos 0 }
