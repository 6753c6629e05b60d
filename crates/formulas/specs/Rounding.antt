-- Rounding of products to cents. Assumes nothing.
use Rattle.std.specs.Prelude.{◌≡◌, ℕ, ◌+◌, ◌*◌, ◌/◌, ◌<◌, ◌≤◌, cond, ℤ, pos, neg_ℤ, ◌-ℤ◌, ◌*ℤ◌, int_lt, unsigned_abs}

-- the products of a cent, and of half a cent
abbrev pub cent : ℕ
cent = 12000000

abbrev pub half_cent : ℕ
half_cent = 6000000

-- how far c cents are off z products
abbrev pub off : ℤ → ℤ → ℕ
off z c = unsigned_abs (z -ℤ pos cent *ℤ c)

-- c cents are what z products round to
pub record RoundsTo (z c : ℤ) : Type 0 where
  -- no more than half a cent off
  pub near : off z c ≤ half_cent
  -- half a cent goes away from 0
  pub away : off z c ≡ half_cent → unsigned_abs z < cent * unsigned_abs c

-- the cents to which products round
unfoldable pub to_cents : ℤ → ℤ
to_cents z =
    let cents = pos ((unsigned_abs z + half_cent) / cent) in
    cond (int_lt z (pos 0)) (neg_ℤ cents) cents
