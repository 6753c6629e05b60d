-- The refusals, and which of them a call meets. Assumes nothing.
use Rattle.std.specs.Prelude.{◌≡◌, ℕ, Bool, true, false, not, cond, List, [], ◌∷◌, ◌++◌, codes}
use Rattle.std.specs.Prelude.{Option, Some, None, Result, Ok, Err}
use Rattle.std.specs.Fmt.{decimal, signed_decimal}
use Rattle.tables.specs.declared.refusal.Place.{Place}
use Rattle.tables.specs.declared.refusal.Refusal.{Refusal}
use Rattle.tables.specs.declared.refusal.Reason.{Reason}
use Rattle.tables.specs.declared.refusal.Reason.TheVariants.{Malformed, OutsideSpan, OutsideValues, NotEntered, AlreadyEntered, Incompatible}
use Rattle.tables.specs.declared.refusal.Reason.TheVariants.{Full, NoTieWeight, NoDemand, NoSurchargeWeight, LinesFull}
use Rattle.tables.specs.declared.refusal.Part.{Part}
use Rattle.tables.specs.declared.refusal.Part.TheVariants.{Sharing, Deemed, Charges, Statement, Reader}

-- the number of a reason
abbrev pub reason_number : Reason → ℕ
reason_number Malformed = 1
reason_number OutsideSpan = 2
reason_number OutsideValues = 3
reason_number NotEntered = 4
reason_number AlreadyEntered = 5
reason_number Incompatible = 6
reason_number Full = 7
reason_number NoTieWeight = 8
reason_number NoDemand = 9
reason_number NoSurchargeWeight = 10
reason_number LinesFull = 11

-- a reason in words
abbrev pub reason_message : Reason → List ℕ
reason_message Malformed = codes "input that cannot be read"
reason_message OutsideSpan = codes "an id, interval, quarter or line place outside its span"
reason_message OutsideValues = codes "a field, code, kind or type outside its values"
reason_message NotEntered = codes "an area, party or resource that is not entered"
reason_message AlreadyEntered = codes "an id that is already entered"
reason_message Incompatible = codes "an area, party or resource that does not fit there"
reason_message Full = codes "a full table, or no run left"
reason_message NoTieWeight = codes "energy of a tie and no interval to share it by"
reason_message NoDemand = codes "an offset and no demand to share it by"
reason_message NoSurchargeWeight = codes "a surcharge of an area and no weight to share it by"
reason_message LinesFull = codes "more new lines than there is room for"

-- the number of a part
abbrev pub part_number : Part → ℕ
part_number Sharing = 1
part_number Deemed = 2
part_number Charges = 3
part_number Statement = 4
part_number Reader = 5

-- a place and a refusal as they are printed
abbrev pub place_text : Place → List ℕ
place_text p = codes "interval " ++ (signed_decimal p.interval ++ (codes " id " ++ signed_decimal p.id))

abbrev pub refusal_text : Refusal → List ℕ
refusal_text r =
    codes "refused " ++ (decimal (reason_number r.reason)
    ++ (codes " part " ++ (decimal (part_number r.part) ++ (codes " " ++ place_text r.place))))

-- a reason, and whether it fits
pub record Fit (R : Type 0) : Type 0 where
  pub reason : R
  pub fits : Bool

infixl 70 ◌when◌
abbrev pub ◌when◌ : {R : Type 0} → R → Bool → Fit R
r when b = record { reason = r; fits = b }

infixl 70 ◌unless◌
abbrev pub ◌unless◌ : {R : Type 0} → R → Bool → Fit R
r unless b = record { reason = r; fits = not b }

-- a reason told as another
abbrev pub reason_as : {R S : Type 0} → (R → S) → Fit R → Fit S
reason_as f fit = record { reason = f fit.reason; fits = fit.fits }

-- the first reason of a list that fits
abbrev pub first_fit : {R : Type 0} → List (Fit R) → Option R
first_fit [] = None
first_fit (f ∷ fs) = cond f.fits (Some f.reason) (first_fit fs)

-- the answer of a call, by the reason that it meets
abbrev pub answer_by : {R : Type 0} → Option R → Result (Unit {0}) R
answer_by None = Ok tt
answer_by (Some r) = Err r

-- what a call leaves: what it makes where it meets no reason, and else what was there
abbrev pub state_after : {R X : Type 0} → Option R → X → X → X
state_after None made before = made
state_after (Some r) made before = before

-- the answer of one test: the value where it passes, else the reason
abbrev pub IsTested : {R X : Type 0} → Bool → X → R → Result X R → Type 0
IsTested passes x reason (Ok y) = (passes ≡ true) × (y ≡ x)
IsTested passes x reason (Err r) = (passes ≡ false) × (r ≡ reason)
