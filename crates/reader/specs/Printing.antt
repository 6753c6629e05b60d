-- What is printed: the lines that are refused, and the listing. Assumes nothing.
use Rattle.std.specs.Prelude.{ℕ, ◌+◌, ◌-◌, ◌^◌, min, List, [], ◌∷◌, ◌++◌, flat_map, Ok, Err, codes}
use Rattle.std.specs.Fmt.{decimal, signed_decimal}
use Rattle.tables.specs.Refusals.{reason_number, part_number}
use Rattle.charges.specs.Codes.{charge_code_number}
use Rattle.statement.specs.declared.line.Line.{Line}
use Rattle.reader.specs.declared.refused.RefusedLine.{RefusedLine}
use Rattle.reader.specs.Carrying.{Outcome}

-- the last number of a line, which stands for all beyond it too
abbrev pub most_number : ℕ
most_number = 2 ^ 64 - 1

-- the number of the line after the one of a number
abbrev pub next_number : ℕ → ℕ
next_number n = min (n + 1) most_number

-- the number of the last of some lines, after the one of a number
abbrev pub number_after : ℕ → List Outcome → ℕ
number_after n [] = n
number_after n (outcome ∷ outcomes) = number_after (next_number n) outcomes

-- the lines that are refused, with their numbers, after so many others
abbrev pub refused_after : ℕ → List Outcome → List RefusedLine
refused_after n [] = []
refused_after n (Ok order ∷ outcomes) = refused_after (next_number n) outcomes
refused_after n (Err r ∷ outcomes) = record { number = next_number n; refusal = r } ∷ refused_after (next_number n) outcomes

abbrev pub refused_text : RefusedLine → List ℕ
refused_text l =
    codes "refused " ++ (decimal (reason_number l.refusal.reason) ++ (codes " " ++ (decimal (part_number l.refusal.part) ++ (codes " " ++ decimal l.number))))

-- five numbers, parted by single spaces
abbrev pub listed_text : Line → List ℕ
listed_text l =
    decimal l.run ++ (codes " " ++ (decimal l.interval ++ (codes " " ++ (decimal l.account ++ (codes " " ++ (decimal (charge_code_number l.code) ++ (codes " " ++ signed_decimal l.cents.0)))))))

-- a line feed after each
abbrev pub ended : List ℕ → List ℕ
ended text = text ++ 10 ∷ []

abbrev pub refusals_text : List RefusedLine → List ℕ
refusals_text lines = flat_map (λ l. ended (refused_text l)) lines

-- a header, and a line for each line of a statement
abbrev pub listing_text : List Line → List ℕ
listing_text lines = codes "run interval account code cents\n" ++ flat_map (λ l. ended (listed_text l)) lines
