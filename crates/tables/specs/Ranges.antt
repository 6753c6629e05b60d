-- The ranges of the numbers that a call is given. Assumes nothing.
use Rattle.std.specs.Prelude.{◌≡◌, ℕ, Bool, true, false, ◌&&◌, ◌==◌, ◌⊎◌, ℤ, pos, ◌≤ℤ◌, ◌<ℤ◌, int_le, unsigned_abs}
use Rattle.std.proofs.Common.{arith}

abbrev pub last_id : ℕ
last_id = 65535

unfoldable pub in_range : ℤ → ℤ → ℤ → Bool
in_range low high z = int_le low z && int_le z high

-- a number inside lies between the ends, one outside before the first or behind the last
pub within : (low high z : ℤ) → in_range low high z ≡ true → (low ≤ℤ z) × (z ≤ℤ high)
unfolding in_range
within low high z e = (grind (arith), grind (arith))

pub inside : (low high z : ℤ) → low ≤ℤ z → z ≤ℤ high → in_range low high z ≡ true
unfolding in_range
inside low high z from to = grind (arith)

pub outside : (low high z : ℤ) → in_range low high z ≡ false → (z <ℤ low) ⊎ (high <ℤ z)
unfolding in_range
outside low high z e = grind (arith)

abbrev pub is_id : ℤ → Bool
is_id z = in_range (pos 1) (pos last_id) z

-- the id that a number inside the span is
abbrev pub as_id : ℤ → ℕ
as_id z = unsigned_abs z

abbrev pub is_flag : ℤ → Bool
is_flag z = in_range (pos 0) (pos 1) z

-- a flag is set by 1
abbrev pub flag : ℤ → Bool
flag z = unsigned_abs z == 1
