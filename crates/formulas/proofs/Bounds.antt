-- The size of a product. Assumes nothing.
use Rattle.std.proofs.Common.{ℕ, ◌*◌, ◌≤◌, ℤ, ◌*ℤ◌, FitsSigned, w64, unsigned_abs, arith}
use Rattle.std.proofs.lemmas.Nat.{mul-le}
use Rattle.std.proofs.lemmas.Int.{unsigned_abs-mul, fits_signed_mul}
use Rattle.rows.specs.Ranges.{most_price}
use Rattle.formulas.specs.Working.{most_priced}

pub product_within : (a b : ℤ) (m n : ℕ) → unsigned_abs a ≤ m → unsigned_abs b ≤ n → unsigned_abs (a *ℤ b) ≤ m * n
product_within a b m n a_within b_within = rw (unsigned_abs-mul a b) (mul-le (unsigned_abs a) (unsigned_abs b) m n a_within b_within)

pub product_fits : (price energy : ℤ) → unsigned_abs price ≤ most_price → unsigned_abs energy ≤ most_priced → FitsSigned w64 (price *ℤ energy)
product_fits price energy small few = fits_signed_mul w64 price energy most_price most_priced small few (omega arith)
