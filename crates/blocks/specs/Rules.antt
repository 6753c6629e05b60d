-- The words of the sharing rules. Assumes nothing.
use Rattle.std.specs.Prelude.{ℕ, List, [], ◌∷◌, Option, codes}
use Rattle.rows.specs.Named.{kind_by_word}
use Rattle.blocks.specs.declared.rule.Rule.{Rule}
use Rattle.blocks.specs.declared.rule.Rule.TheVariants.{LargestRemainder, Running}

abbrev pub rule_word : Rule → List ℕ
rule_word LargestRemainder = codes "L"
rule_word Running = codes "R"

abbrev pub rule_of : List ℕ → Option Rule
rule_of word = kind_by_word rule_word (LargestRemainder ∷ Running ∷ []) word
