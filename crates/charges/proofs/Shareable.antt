-- When a pool cannot be shared. Assumes nothing.
use Rattle.std.proofs.Common.{◌≡◌, ◌≢◌, ℕ, true, false, List, ℤ, pos, sum, arith}
use Rattle.std.proofs.lemmas.Bool.Decides.{Decides-int_eq}
use Rattle.sharing.specs.Limits.{Shareable}
use Rattle.charges.specs.Faults.{unshareable}

pub shareable : (pool : ℤ) (ws : List ℕ) → unshareable pool ws ≡ false → Shareable pool ws
shareable pool ws fits none = grind (arith, Decides-int_eq pool (pos 0))

pub not_unshareable : (pool : ℤ) (ws : List ℕ) → Shareable pool ws → unshareable pool ws ≡ false
not_unshareable pool ws may = grind (arith, Decides-int_eq pool (pos 0), may)

pub unshareable_is : (pool : ℤ) (ws : List ℕ) → sum ws ≡ 0 → pool ≢ pos 0 → unshareable pool ws ≡ true
unshareable_is pool ws none some = grind (arith, Decides-int_eq pool (pos 0))
