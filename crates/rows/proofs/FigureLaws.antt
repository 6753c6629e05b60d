-- A figure has the quantity that made it, where that is in its range, and is the figure of its quantity. Assumes nothing.
use Rattle.std.proofs.Common.{◌≡◌, ◌≤◌, true, ℤ, refl, sym, ap, unsigned_abs, arith}
use Rattle.std.proofs.lemmas.Int.{ints}
use Rattle.tables.specs.Ranges.{in_range, inside}
use Rattle.deemed.specs.declared.quantities.Kilowatts.{Kilowatts}
use Rattle.deemed.specs.declared.quantities.Units.{Units}
use Rattle.rows.specs.Ranges.{most_deemed}
use Rattle.rows.specs.declared.figures.Cents.{Cents}
use Rattle.rows.specs.declared.figures.DeemedEnergy.{DeemedEnergy}
use Rattle.rows.specs.Figures.{or_0, is_deemed, is_given, is_power, as_deemed, as_given, as_power, no_cents, no_kilowatts}
use Rattle.rows.proofs.Equal.{same_deemed}
use Rattle.rows.proofs.Unposted.{zero_either_way, zero_from_0}

-- a number in its range stays
number_stays : (low high z : ℤ) → in_range low high z ≡ true → or_0 (in_range low high z) z ≡ z
number_stays low high z e = rw e refl

pub units_of_deemed : (units : Units) → is_deemed units ≡ true → (as_deemed units).units ≡ units
unfolding as_deemed
units_of_deemed units e = λ i. record { 0 = number_stays _ _ units.0 e i }

pub cents_of_given : (cents : Cents) → is_given cents ≡ true → (as_given cents).cents ≡ cents
unfolding as_given
cents_of_given cents e = λ i. record { 0 = number_stays _ _ cents.0 e i }

pub kilowatts_of_power : (kilowatts : Kilowatts) → is_power kilowatts ≡ true → (as_power kilowatts).kilowatts ≡ kilowatts
unfolding as_power
kilowatts_of_power kilowatts e = λ i. record { 0 = number_stays _ _ kilowatts.0 e i }

-- what stands where nothing was posted is 0
pub nothing_is_given : (as_given no_cents).cents ≡ no_cents
nothing_is_given = cents_of_given no_cents (zero_either_way 1000000000)

pub no_power : (as_power no_kilowatts).kilowatts ≡ no_kilowatts
no_power = kilowatts_of_power no_kilowatts (zero_from_0 10000000)

-- no more than the most, of either sign, is in the range
pub deemed_in_range : (units : Units) → unsigned_abs units.0 ≤ most_deemed → is_deemed units ≡ true
deemed_in_range units few = inside _ _ units.0 (omega (arith, ints)) (omega (arith, ints))

-- a deemed energy is the figure of its units
pub deemed_of_units : (e : DeemedEnergy) → e ≡ as_deemed e.units
deemed_of_units e = same_deemed e (as_deemed e.units)
    (ap (λ (u : Units). u.0) (sym (units_of_deemed e.units (deemed_in_range e.units e.within))))
