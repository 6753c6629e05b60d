-- The number that digits write, read from the front. Assumes nothing.
use Rattle.std.proofs.Common.{◌≡◌, ℕ, suc, ◌+◌, ◌-◌, ◌*◌, ◌^◌, ◌<◌, ◌≤◌, ◌==◌, List, [], ◌∷◌, length, get_or, take, drop, true, false, ◌⊎◌, Some, None, ℤ, pos, ◌+ℤ◌, ◌*ℤ◌, refl, sym, ◌∙◌, arith, option_map}
use Rattle.std.proofs.Math.Nat.{pow-succ', pow-le-pow_right, one-le-pow, mul-le-mul_left, mul-le-mul_right}
use Rattle.std.proofs.lemmas.List.{take_rest}
use Rattle.std.proofs.lemmas.Bool.Decides.{nat_tests}
use Rattle.std.specs.Bool.{then_some}
use Rattle.std.specs.Char.{is_ascii_digit}
use Rattle.words.specs.Numbers.{decimal_value, natural_of}
use Rattle.std.specs.List.{list_all}

-- a number is what the digits before the rest write
pub record ReadSoFar (text rest : List ℕ) (number : ℤ) : Type 0 where
  pub n : ℕ
  pub is : number ≡ pos n
  pub value : n * 10 ^ length rest + decimal_value rest ≡ decimal_value text
  pub digits : list_all is_ascii_digit rest ≡ list_all is_ascii_digit text
  pub room : (n + 1) * 10 ^ length rest ≤ 10 ^ length text

pub nothing_read : (text : List ℕ) → ReadSoFar text text (pos 0)
nothing_read text = record { n = 0; is = refl; value = omega arith; digits = refl; room = omega arith }

is_digit : (b : ℕ) → 48 ≤ b → b ≤ 57 → is_ascii_digit b ≡ true
is_digit b low high = grind (arith, nat_tests)

-- a digit behind a number, and what is written behind both
digit_behind : (n d place rest : ℕ) → (n * 10 + d) * place + rest ≡ n * (10 * place) + (d * place + rest)
digit_behind n d place rest = omega arith

room_behind : (n d place all : ℕ) → d ≤ 9 → (n + 1) * (10 * place) ≤ all → (n * 10 + d + 1) * place ≤ all
room_behind n d place all low room =
    let here : (n * 10 + d + 1) * place ≤ (n * 10 + 10) * place = mul-le-mul_right place (omega arith) in
    omega arith

digit_read : (text digits : List ℕ) (b : ℕ) (number : ℤ) → 48 ≤ b → b ≤ 57
    → ReadSoFar text (b ∷ digits) number
    → ReadSoFar text digits (number *ℤ pos 10 +ℤ pos (b - 48))
digit_read text digits b number low high so_far =
    let n = so_far.n in
    let place = 10 ^ length digits in
    let up : 10 ^ suc (length digits) ≡ 10 * place = pow-succ' 10 (length digits) in
    record {
      n = n * 10 + (b - 48);
      is = rw so_far.is refl;
      value = digit_behind n (b - 48) place (decimal_value digits) ∙ (rw up at so_far.value);
      digits = rw is_digit at so_far.digits;
      room = room_behind n (b - 48) place _ (omega arith) (rw up at so_far.room);
    }

pub first_read : (text rest : List ℕ) (number next : ℤ) → 1 ≤ length rest → 48 ≤ get_or rest 0 0 → get_or rest 0 0 ≤ 57
    → next ≡ number *ℤ pos 10 +ℤ pos (get_or rest 0 0 - 48)
    → ReadSoFar text rest number
    → ReadSoFar text (take (length rest - 1) (drop 1 rest)) next
first_read text [] number next some low high e so_far = absurd (omega arith)
first_read text (b ∷ digits) number next some low high e so_far = rw (take_rest, e) (digit_read text digits b number low high so_far)

pub all_read : (text rest : List ℕ) (number : ℤ) → 1 ≤ length text → length text ≤ 10 → length rest < 1
    → ReadSoFar text rest number
    → then_some (length rest == 0) number ≡ option_map pos (natural_of text)
all_read text [] number some few none so_far =
    let digits : list_all is_ascii_digit text ≡ true = sym so_far.digits in
    let value : so_far.n ≡ decimal_value text = omega (arith, so_far.value) in
    let natural : natural_of text ≡ Some (decimal_value text) = grind (arith, nat_tests) in
    rw (natural, so_far.is, value) refl
all_read text (b ∷ rest) number some few none so_far = absurd (omega arith)

not_digit : (b : ℕ) → (b < 48) ⊎ (57 < b) → is_ascii_digit b ≡ false
not_digit b h = grind (arith, nat_tests)

pub stopped : (text rest : List ℕ) (number : ℤ) → 1 ≤ length rest → (get_or rest 0 0 < 48) ⊎ (57 < get_or rest 0 0)
    → ReadSoFar text rest number
    → then_some (length rest == 0) number ≡ option_map pos (natural_of text)
stopped text [] number some other so_far = absurd (omega arith)
stopped text (b ∷ rest) number some other so_far =
    let digits : list_all is_ascii_digit text ≡ false = sym (rw not_digit at so_far.digits) in
    let natural : natural_of text ≡ None = grind (arith, nat_tests) in
    let more : (length (b ∷ rest) == 0) ≡ false = grind (arith, nat_tests) in
    rw (more, natural) refl

-- a number of at most ten digits is small
pub few_digits : (text rest : List ℕ) (number : ℤ) → length text ≤ 10
    → (so_far : ReadSoFar text rest number)
    → so_far.n < 10000000000
few_digits text rest number few so_far =
    let most : 10 ^ length text ≤ 10 ^ 10 = pow-le-pow_right (omega arith) few in
    let here = mul-le-mul_left (so_far.n + 1) (one-le-pow (length rest) 10 (omega arith)) in
    omega (arith, so_far.room, most, here)
