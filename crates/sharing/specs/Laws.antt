-- The laws that a sharing rule keeps inside the limits, wherever it puts the units that rounding leaves over.
-- Assumes nothing.
use Rattle.std.specs.Prelude.{◌≡◌, ℕ, ◌<◌, List, length, ℤ, pos, ◌+ℤ◌, ◌-ℤ◌, ◌*ℤ◌, fold, sum, slice_index, slice_index_or, unsigned_abs}
use Rattle.sharing.specs.Limits.{Within, Shareable}

-- the total of the shares
abbrev pub total : List ℤ → ℤ
total zs = fold ◌+ℤ◌ (pos 0) zs

-- a share is less than one unit off its exact part p * w / W: W * share is less than W off p * w
abbrev pub Near : ℤ → ℕ → ℕ → ℤ → Type 0
Near p W w share = unsigned_abs (pos W *ℤ share -ℤ p *ℤ pos w) < W

-- the shares zs of a pool p by weights ws are as the laws want them
pub record Apportioned (p : ℤ) (ws : List ℕ) (zs : List ℤ) : Type 0 where
  -- one share for each weight
  pub one_each : length zs ≡ length ws
  -- nothing is lost and nothing is made
  pub in_full : Shareable p ws → total zs ≡ p
  pub near : (i : ℕ) → 0 < sum ws → i < length ws → Near p (sum ws) (slice_index ws i) (slice_index_or zs i (pos 0))
  -- with no weight there is no share, whatever the pool
  pub no_weight : (i : ℕ) → sum ws ≡ 0 → i < length ws → slice_index_or zs i (pos 0) ≡ pos 0

abbrev pub Lawful : (ℤ → List ℕ → List ℤ) → Type 0
Lawful shares = (p : ℤ) (ws : List ℕ) → Within p ws → Apportioned p ws (shares p ws)
