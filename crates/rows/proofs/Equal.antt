-- `==` of figures, and of records that hold them, is equality. Assumes nothing.
use Rattle.std.proofs.Common.{◌≡◌, ap, refl, ℕ, ℤ, pos, unsigned_abs, ◌≤◌, ◌≤ℤ◌, int_eq, Bool, true, false, ◌&&◌, List, [], ◌∷◌, Option, Some, None, arith}
use Rattle.std.specs.Bool.{Decides}
use mathlib.Core.Bool.{beq}
use Rattle.std.specs.Option.{option_eq}
use Rattle.std.proofs.lemmas.Bool.Decides.{Decides-int_eq}
use lib.Pointwise.{pointwise}
use mathlib.Core.HLevel.{is_prop→PathP}
use mathlib.Core.Path.{PathP}
use lib.Dec.{T_prop}
use lib.Signed.{le_z}
use Rattle.std.proofs.Math.Bridge.{le_prop}
use Rattle.deemed.specs.declared.tag.Tag.{Tag}
use Rattle.rows.specs.declared.figures.BidCap.{BidCap}
use Rattle.rows.specs.declared.figures.DeemedEnergy.{DeemedEnergy}
use Rattle.rows.specs.declared.figures.Energy.{Energy}
use Rattle.rows.specs.declared.figures.GivenAmount.{GivenAmount}
use Rattle.rows.specs.declared.figures.Power.{Power}
use Rattle.rows.specs.declared.figures.Price.{Price}
use Rattle.rows.specs.declared.figures.UnsignedEnergy.{UnsignedEnergy}

-- what a range says of a number has one proof
module _ {x y : ℤ} (e : x ≡ y) where
  bound : {most : ℕ} (a : unsigned_abs x ≤ most) (b : unsigned_abs y ≤ most) → PathP (λ i. unsigned_abs (e i) ≤ most) a b
  bound {most} a b = is_prop→PathP (λ i. unsigned_abs (e i) ≤ most) (λ i. le_prop) a b

  sign : (a : pos 0 ≤ℤ x) (b : pos 0 ≤ℤ y) → PathP (λ i. pos 0 ≤ℤ e i) a b
  sign a b = is_prop→PathP (λ i. pos 0 ≤ℤ e i) (λ i c d. λ j. record { le = T_prop (le_z (pos 0) (e i)) c.le d.le j }) a b

  top : {high : ℤ} (a : x ≤ℤ high) (b : y ≤ℤ high) → PathP (λ i. e i ≤ℤ high) a b
  top {high} a b = is_prop→PathP (λ i. e i ≤ℤ high) (λ i c d. λ j. record { le = T_prop (le_z (e i) high) c.le d.le j }) a b

-- a figure by its number
by_number : {F : Type 0} (number : F → ℤ) → ((a b : F) → number a ≡ number b → a ≡ b) → (a b : F) → Decides (int_eq (number a) (number b)) (a ≡ b)
by_number number same a b =
    let d = Decides-int_eq (number a) (number b) in
    (λ h. same a b (d.0 h), λ e. d.1 (ap number e))

pub price : (a b : Price) → Decides (int_eq a.steps.0 b.steps.0) (a ≡ b)
price = by_number (λ x. x.steps.0)
    (λ a b e i. record { steps = record { 0 = e i }; within = bound e a.within b.within i })

pub cap : (a b : BidCap) → Decides (int_eq a.steps.0 b.steps.0) (a ≡ b)
cap = by_number (λ x. x.steps.0)
    (λ a b e i. record { steps = record { 0 = e i }; from_0 = sign e a.from_0 b.from_0 i; within = bound e a.within b.within i })

pub energy : (a b : Energy) → Decides (int_eq a.units.0 b.units.0) (a ≡ b)
energy = by_number (λ x. x.units.0)
    (λ a b e i. record { units = record { 0 = e i }; within = bound e a.within b.within i })

pub unsigned : (a b : UnsignedEnergy) → Decides (int_eq a.units.0 b.units.0) (a ≡ b)
unsigned = by_number (λ x. x.units.0)
    (λ a b e i. record { units = record { 0 = e i }; from_0 = sign e a.from_0 b.from_0 i; within = bound e a.within b.within i })

pub power : (a b : Power) → Decides (int_eq a.kilowatts.0 b.kilowatts.0) (a ≡ b)
power = by_number (λ x. x.kilowatts.0)
    (λ a b e i. record { kilowatts = record { 0 = e i }; from_0 = sign e a.from_0 b.from_0 i; within = bound e a.within b.within i })

pub same_deemed : (a b : DeemedEnergy) → a.units.0 ≡ b.units.0 → a ≡ b
same_deemed a b e = λ i. record { units = record { 0 = e i }; within = bound e a.within b.within i }

pub given : (a b : GivenAmount) → Decides (int_eq a.cents.0 b.cents.0) (a ≡ b)
given = by_number (λ x. x.cents.0)
    (λ a b e i. record { cents = record { 0 = e i }; within = bound e a.within b.within i })

-- a tag by its figures
pub same_tag : (a b : Tag) → a.kw.0 ≡ b.kw.0 → a.telemetry.0 ≡ b.telemetry.0 → a.curtailed ≡ b.curtailed → a ≡ b
same_tag a b kw telemetry curtailed = λ i. record {
  kw = record { 0 = kw i };
  telemetry = record { 0 = telemetry i };
  curtailed = curtailed i;
  scheduled = bound kw a.scheduled b.scheduled i;
  metered_from = sign telemetry a.metered_from b.metered_from i;
  metered_to = top telemetry a.metered_to b.metered_to i;
}

-- what two tests say, together
pub both : {s t : Bool} {P Q : Type 0} → Decides s P → Decides t Q → Decides (s && t) (P × Q)
both {s = true} d e = (λ h. (d.0 refl, e.0 h), λ p. e.1 p.1)
both {s = false} d e = (λ h. absurd (grind (arith, h)), λ p. d.1 p.0)

pub flags : (a b : Bool) → Decides (beq a b) (a ≡ b)
flags true true = (λ h. refl, λ e. refl)
flags true false = (λ h. absurd (grind (arith, h)), λ e. absurd (grind (arith, e)))
flags false true = (λ h. absurd (grind (arith, h)), λ e. absurd (grind (arith, e)))
flags false false = (λ h. refl, λ e. refl)

module _ {T : Type 0} {eq : T → T → Bool} (each : (x y : T) → Decides (eq x y) (x ≡ y)) where
  pub options : (a b : Option T) → Decides (option_eq eq a b) (a ≡ b)
  options None None = (λ h. refl, λ e. refl)
  options None (Some y) = (λ h. absurd (grind (arith, h)), λ e. absurd (grind (arith, e)))
  options (Some x) None = (λ h. absurd (grind (arith, h)), λ e. absurd (grind (arith, e)))
  options (Some x) (Some y) = (λ h. ap Some ((each x y).0 h), λ e. (each x y).1 (grind (arith, e)))

  pub lists : (xs ys : List T) → Decides (pointwise eq xs ys) (xs ≡ ys)
  lists [] [] = (λ h. refl, λ e. refl)
  lists [] (y ∷ ys) = (λ h. absurd (grind (arith, h)), λ e. absurd (grind (arith, e)))
  lists (x ∷ xs) [] = (λ h. absurd (grind (arith, h)), λ e. absurd (grind (arith, e)))
  lists (x ∷ xs) (y ∷ ys) =
      let d = both (each x y) (lists xs ys) in
      (λ h. let p = d.0 h in λ i. p.0 i ∷ p.1 i, λ e. d.1 (grind (arith, e), grind (arith, e)))
