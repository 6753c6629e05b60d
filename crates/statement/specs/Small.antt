-- Amounts of which a difference fits 64 bits. Assumes nothing.
use Rattle.std.specs.Prelude.{ℕ, ◌<◌, ◌≤◌, List, slice_index_or, unsigned_abs}
use Rattle.deemed.specs.Ranges.{hour_length}
use Rattle.charges.specs.declared.amounts.IntervalAmounts.{IntervalAmounts}
use Rattle.charges.specs.declared.code.ChargeCode.{ChargeCode}
use Rattle.charges.specs.Amounts.{no_amounts}
use Rattle.charges.specs.Codes.{column_under}
use Rattle.charges.specs.Charged.{Bounded}
use Rattle.charges.specs.Ranges.{most_amount}

-- the amounts of an interval, by its place from 0
abbrev pub at : List IntervalAmounts → ℕ → IntervalAmounts
at xs place = slice_index_or xs place no_amounts

pub record Small (x : IntervalAmounts) : Type 0 where
  pub columns : (code : ChargeCode) → Bounded (column_under code x)
  pub balance : unsigned_abs x.balance.0 ≤ most_amount

-- in each interval
abbrev pub AllSmall : List IntervalAmounts → Type 0
AllSmall xs = (place : ℕ) → place < hour_length → Small (at xs place)
