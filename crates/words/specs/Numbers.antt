-- The numbers that texts write. Assumes nothing.
use Rattle.std.specs.Prelude.{◌≡◌, ◌<◌, ℕ, ◌+◌, ◌-◌, ◌*◌, ◌^◌, ◌==◌, ◌&&◌, nat_le, Bool, if◌then◌else◌, List, [], ◌∷◌, length, Option, Some, None, ℤ, pos, neg_ℤ, unsigned_abs}
use Rattle.std.specs.Char.{is_ascii_digit}
use Rattle.std.specs.Fmt.{signed_decimal}
use Rattle.std.specs.Option.{option_map}
use Rattle.std.specs.List.{list_all}

-- what a digit counts
abbrev pub digit : ℕ → ℕ
digit b = b - 48

-- the number that digits write: each counts for its place
abbrev pub decimal_value : List ℕ → ℕ
decimal_value [] = 0
decimal_value (b ∷ digits) = digit b * 10 ^ length digits + decimal_value digits

-- the most digits of a number
abbrev pub most_digits : ℕ
most_digits = 10

-- one to ten digits
abbrev pub is_natural : List ℕ → Bool
is_natural text = nat_le 1 (length text) && (nat_le (length text) most_digits && list_all is_ascii_digit text)

abbrev pub natural_of : List ℕ → Option ℕ
natural_of text = if is_natural text then Some (decimal_value text) else None

-- the number that a text writes: one to ten digits, after a minus or not
abbrev pub number_of : List ℕ → Option ℤ
number_of [] = None
number_of (b ∷ text) = if b == 45 then option_map (λ n. neg_ℤ (pos n)) (natural_of text) else option_map pos (natural_of (b ∷ text))

-- what is written in decimal, of at most ten digits, is read as the number that was written
abbrev pub NumbersReadBack : Type 0
NumbersReadBack = (n : ℤ) → unsigned_abs n < 10 ^ most_digits → number_of (signed_decimal n) ≡ Some n
