-- 0 is in every range of a figure. Assumes nothing.
use Rattle.std.proofs.Common.{◌≡◌, true, ℕ, pos, neg_ℤ, arith}
use Rattle.tables.specs.Ranges.{inside}
use Rattle.rows.specs.Figures.{either_way, from_0_to}

pub zero_either_way : (most : ℕ) → either_way most (pos 0) ≡ true
zero_either_way most = inside (neg_ℤ (pos most)) (pos most) (pos 0) (grind (arith)) (grind (arith))

pub zero_from_0 : (most : ℕ) → from_0_to most (pos 0) ≡ true
zero_from_0 most = inside (pos 0) (pos most) (pos 0) (grind (arith)) (grind (arith))
