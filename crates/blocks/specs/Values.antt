-- What a line of values holds under the names of its block. Assumes nothing.
use Rattle.std.specs.Prelude.{ℕ, Bool, true, false, ◌&&◌, if◌then◌else◌, is_some, List, [], ◌∷◌, Option, Some, None, bytes_eq, ℤ, pos}
use Rattle.std.specs.Option.{unwrap_or}
use Rattle.words.specs.Texts.{is_word}
use Rattle.words.specs.Numbers.{number_of}
use Rattle.blocks.specs.declared.block.Block.{Block}
use Rattle.blocks.specs.Names.{word_name}

-- the value that stands under a name, if the name heads a column
abbrev pub under : List (List ℕ) → List (List ℕ) → List ℕ → Option (List ℕ)
under [] values name = None
under (n ∷ names) [] name = None
under (n ∷ names) (value ∷ values) name = if bytes_eq n name then Some value else under names values name

-- whether a value may stand under a name of a block: a word under one, a number under the others
abbrev pub may_stand : Block → List ℕ → List ℕ → Bool
may_stand b name value = if bytes_eq name (word_name b) then is_word value else is_some (number_of value)

-- one value for each name, and each may stand there
abbrev pub values_fit : Block → List (List ℕ) → List (List ℕ) → Bool
values_fit b [] [] = true
values_fit b [] (value ∷ values) = false
values_fit b (name ∷ names) [] = false
values_fit b (name ∷ names) (value ∷ values) = may_stand b name value && values_fit b names values

-- the number that a value writes, and 0 where it is left out
abbrev pub number_or_0 : Option (List ℕ) → ℤ
number_or_0 None = pos 0
number_or_0 (Some value) = unwrap_or (number_of value) (pos 0)
