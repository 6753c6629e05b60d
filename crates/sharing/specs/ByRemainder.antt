-- Largest remainder without ranks: what a place has beyond its share rounded down, and who comes first. It is said of sizes,
-- since a share has the sign of the pool. Assumes nothing.
use Rattle.std.specs.Prelude.{◌≡◌, ◌⊎◌, ℕ, ◌+◌, ◌*◌, ◌/◌, ◌%◌, ◌<◌, List, length, ℤ, pos, sum, slice_index, slice_index_or, unsigned_abs}

-- the exact part of the weight at a place, rounded down
abbrev pub floor_at : ℤ → List ℕ → ℕ → ℕ
floor_at p ws i = unsigned_abs p * slice_index ws i / sum ws

-- and the remainder that this leaves
abbrev pub remainder_at : ℤ → List ℕ → ℕ → ℕ
remainder_at p ws i = unsigned_abs p * slice_index ws i % sum ws

-- place i comes before place j: its remainder is larger, or the same and the place earlier
abbrev pub IsBefore : ℤ → List ℕ → ℕ → ℕ → Type 0
IsBefore p ws i j =
    (remainder_at p ws j < remainder_at p ws i) ⊎ ((remainder_at p ws i ≡ remainder_at p ws j) × (i < j))

-- the share at place i is k units more than its exact part rounded down
abbrev pub HasMore : ℕ → ℤ → List ℕ → List ℤ → ℕ → Type 0
HasMore k p ws zs i = unsigned_abs (slice_index_or zs i (pos 0)) ≡ floor_at p ws i + k

-- Each place has 0 or 1 unit beyond its share rounded down, and whoever has one comes before whoever has none.
pub record IsByRemainder (p : ℤ) (ws : List ℕ) (zs : List ℤ) : Type 0 where
  pub units : (i : ℕ) → i < length ws → HasMore 0 p ws zs i ⊎ HasMore 1 p ws zs i
  pub order : (i j : ℕ) → i < length ws → j < length ws → HasMore 1 p ws zs i → HasMore 0 p ws zs j → IsBefore p ws i j
