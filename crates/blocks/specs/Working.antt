-- How the values of a line are held while it is read. No public contract speaks of it. Assumes nothing.
use Rattle.std.specs.Prelude.{◌≡◌, ℕ, ◌-◌, true, false, if◌then◌else◌, List, ◌++◌, map, length, replicate, Option, Some, None, bytes_eq, slice_set, ℤ, pos}
use Rattle.std.specs.Option.{option_map}
use Rattle.words.specs.Texts.{words_of}
use Rattle.blocks.specs.declared.block.Block.{Block}
use Rattle.blocks.specs.declared.values.Values.{Values}
use Rattle.blocks.specs.Names.{block_names, name_at, word_name}
use Rattle.blocks.specs.Headings.{is_name_of}
use Rattle.blocks.specs.Values.{under, may_stand, values_fit, number_or_0}

-- the most names that a block has
abbrev pub most_names : ℕ
most_names = 14

-- the numbers under the names of a block, in their order, and 0 behind them
abbrev pub numbers_under : Block → (List ℕ → Option (List ℕ)) → List ℤ
numbers_under b value = map (λ name. number_or_0 (value name)) (block_names b) ++ replicate (most_names - length (block_names b)) (pos 0)

-- values as they are held: the numbers, and the word
pub record Held (b : Block) (value : List ℕ → Option (List ℕ)) (v : Values) : Type 0 where
  pub numbers : v.numbers ≡ numbers_under b value
  pub word : is_name_of b (word_name b) ≡ true → option_map (λ w. w.now) v.word ≡ value (word_name b)

-- the values of a line under the names of a block, if they are as they must be
abbrev pub Read : Block × List (List ℕ) → List ℕ → Option Values → Type 0
Read h line None = values_fit h.0 h.1 (words_of line) ≡ false
Read h line (Some v) = (values_fit h.0 h.1 (words_of line) ≡ true) × Held h.0 (under h.1 (words_of line)) v

-- a value that takes its place under a name of a block, by the place of the name; or that may not stand there
abbrev pub Put : Block → ℕ → List ℕ → Values → Values → Option (Unit {0}) → Type 0
Put b place value before after None = may_stand b (name_at b place) value ≡ false
Put b place value before after (Some done) = (may_stand b (name_at b place) value ≡ true)
    × (after.numbers ≡ (if bytes_eq (name_at b place) (word_name b) then before.numbers else slice_set before.numbers place (number_or_0 (Some value))))
    × (option_map (λ w. w.now) after.word ≡ (if bytes_eq (name_at b place) (word_name b) then Some value else option_map (λ w. w.now) before.word))
