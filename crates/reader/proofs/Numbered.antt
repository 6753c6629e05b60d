-- The numbers of an input's lines, and what is printed of those that are refused.
use Rattle.std.proofs.Common.{◌≡◌, ◌∙◌, sym, ap, ℕ, ◌+◌, ◌≤◌, min, List, [], ◌∷◌, ◌++◌, length, Ok, Err, refl, arith}
use Rattle.std.proofs.lemmas.Grind.{flat_map-append}
use Rattle.statement.specs.declared.statement.Statement.{Statement}
use Rattle.reader.specs.declared.input.InputReader.{InputReader}
use Rattle.reader.specs.declared.lines.LineReader.{LineReader}
use Rattle.reader.specs.Carrying.{Outcome}
use Rattle.reader.specs.Inputs.{LinesTaken}
use Rattle.reader.specs.Printing.{most_number, next_number, number_after, refused_after, refused_text, refusals_text, ended}
use Rattle.reader.specs.Feeding.{Led}

one_each : (lines : List (List ℕ)) (before after : LineReader) (outcomes : List Outcome) → LinesTaken lines before after outcomes
    → length outcomes ≡ length lines
one_each [] before after outcomes (same, none) = ap length none
one_each (line ∷ lines) before after outcomes (next, outcome, others, taken, rest, is) =
    let n = one_each lines next after others rest in ap length is ∙ omega arith

number_counts : (n : ℕ) (outcomes : List Outcome) → n ≤ most_number → number_after n outcomes ≡ min (n + length outcomes) most_number
number_counts n [] few = omega arith
number_counts n (outcome ∷ outcomes) few = number_counts (next_number n) outcomes (omega arith) ∙ omega arith

pub numbered : (start : Statement) (input : List ℕ) (reader : InputReader) (outcomes : List Outcome) → Led start input reader outcomes
    → reader.number ≡ number_after 0 outcomes
numbered start input reader outcomes led =
    let each : length outcomes ≡ length led.ended = one_each led.ended _ _ outcomes led.taken in
    let counts = number_counts 0 outcomes (omega arith) in
    omega arith

pub number_after_all : (n : ℕ) (outcomes more : List Outcome)
    → number_after n (outcomes ++ more) ≡ number_after (number_after n outcomes) more
number_after_all n [] more = refl
number_after_all n (outcome ∷ outcomes) more = number_after_all (next_number n) outcomes more

pub refused_after_all : (n : ℕ) (outcomes more : List Outcome)
    → refused_after n (outcomes ++ more) ≡ refused_after n outcomes ++ refused_after (number_after n outcomes) more
refused_after_all n [] more = refl
refused_after_all n (Ok said ∷ outcomes) more = refused_after_all (next_number n) outcomes more
refused_after_all n (Err r ∷ outcomes) more =
    ap (λ lines. record { number = next_number n; refusal = r } ∷ lines) (refused_after_all (next_number n) outcomes more)

-- more lines that are refused, by the number that the lines before have led to
pub refusals_more : (n : ℕ) (outcomes more : List Outcome) (number : ℕ) → number ≡ number_after n outcomes
    → refusals_text (refused_after n (outcomes ++ more)) ≡ refusals_text (refused_after n outcomes) ++ refusals_text (refused_after number more)
refusals_more n outcomes more number is =
    ap refusals_text (refused_after_all n outcomes more)
    ∙ (flat_map-append (λ l. ended (refused_text l)) (refused_after n outcomes) (refused_after (number_after n outcomes) more)
    ∙ ap (λ k. refusals_text (refused_after n outcomes) ++ refusals_text (refused_after k more)) (sym is))
