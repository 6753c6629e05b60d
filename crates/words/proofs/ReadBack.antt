-- A number that is written in decimal is read back. Assumes nothing.
use Rattle.std.proofs.Common.{◌≡◌, ℕ, suc, ◌^◌, ◌<◌, List, [], ◌∷◌, true, Some, pos, negsuc, neg_ℤ, refl, ◌∙◌, ap, arith, rules, option_map}
use Rattle.std.proofs.lemmas.Bool.Decides.{nat_tests}
use Rattle.std.proofs.lemmas.Fmt.{digits_decimal, digits_value-decimal, length-decimal-le, decimal_nonempty}
use Rattle.std.proofs.lemmas.Str.Parse.{IsNumeralModel, numerals_by_weight}
use Rattle.std.specs.Char.{is_ascii_digit}
use Rattle.std.specs.Fmt.{decimal}
use Rattle.words.specs.Numbers.{decimal_value, natural_of, number_of, NumbersReadBack}
use Rattle.std.specs.List.{list_all}

decimal_digits : IsNumeralModel (λ ds. list_all is_ascii_digit ds ≡ true) decimal_value
decimal_digits = numerals_by_weight _ (search rules) decimal_value (search rules)

natural_of-decimal : (n : ℕ) → n < 10 ^ 10 → natural_of (decimal n) ≡ Some n
natural_of-decimal n few =
    let digits = digits_decimal decimal_digits n (omega arith) in
    let value = digits_value-decimal decimal_digits n (omega arith) in
    let short = length-decimal-le 10 n (omega arith) (omega arith) (omega arith) in
    let some = decimal_nonempty n (omega arith) in
    grind (arith, nat_tests)

-- no minus stands before digits
number_of-digits : (text : List ℕ) → list_all is_ascii_digit text ≡ true → number_of text ≡ option_map pos (natural_of text)
number_of-digits [] digits = refl
number_of-digits (b ∷ text) digits = grind (arith, nat_tests)

pub numbers_read_back : NumbersReadBack
numbers_read_back (pos n) few =
    number_of-digits (decimal n) (digits_decimal decimal_digits n (omega arith)) ∙ ap (option_map pos) (natural_of-decimal n few)
numbers_read_back (negsuc n) few = ap (option_map (λ n. neg_ℤ (pos n))) (natural_of-decimal (suc n) few)
