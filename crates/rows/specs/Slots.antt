-- The intervals and the quarters of an hour, by their numbers. Assumes nothing.
use Rattle.std.specs.Prelude.{◌≡◌, ◌+◌, ◌-◌, ◌/◌, ℕ, Bool, true, false, ℤ, pos, Result, Ok, Err, unsigned_abs}
use Rattle.tables.specs.Ranges.{in_range}
use Rattle.tables.specs.declared.refusal.Reason.{Reason}
use Rattle.tables.specs.declared.refusal.Reason.TheVariants.{OutsideSpan}
use Rattle.deemed.specs.Ranges.{hour_length}
use Rattle.rows.specs.Ranges.{quarters}
use Rattle.rows.specs.declared.slot.Slot.{Slot}

-- whether a number is that of one of so many
abbrev pub is_slot : ℕ → ℤ → Bool
is_slot count z = in_range (pos 1) (pos count) z

abbrev pub is_interval : ℤ → Bool
is_interval z = is_slot hour_length z

abbrev pub is_quarter : ℤ → Bool
is_quarter z = is_slot quarters z

-- its index, from 0
abbrev pub slot_index : ℤ → ℕ
slot_index z = unsigned_abs z - 1

-- interval i lies in quarter (i + 2) / 3; here by their indexes
abbrev pub quarter_of : ℕ → ℕ
quarter_of index = (index + 1 + 2) / 3 - 1

-- the slot with this number, where there is one
abbrev pub IsNumbered : (count : ℕ) → ℤ → Result (Slot count) Reason → Type 0
IsNumbered count z (Ok s) = (is_slot count z ≡ true) × (s.index ≡ slot_index z)
IsNumbered count z (Err r) = (is_slot count z ≡ false) × (r ≡ OutsideSpan)
