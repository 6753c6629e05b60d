-- The columns of a block, by the places of their names. Assumes nothing.
use Rattle.std.proofs.Common.{◌≡◌, ◌∙◌, sym, ap, ℕ, ◌<◌, ◌≤◌, nat_eq, Bool, false, Some, List, length, map, get_or, arith}
use Rattle.std.specs.Prelude.{bytes_eq}
use Rattle.std.specs.Option.{option_eq}
use Rattle.std.specs.List.{range_with_len}
use Rattle.std.proofs.lemmas.List.FromFn.{get_or-map-range_with_len}
use Rattle.blocks.specs.declared.block.Block.{Block}
use Rattle.blocks.specs.Names.{block_names, name_at, place_among, word_name}
use Rattle.blocks.specs.Working.{most_names}

pub few_names : (b : Block) → length (block_names b) ≤ most_names
few_names b = grind arith

-- whether a block has words at a place: by the place of that name, and by the name at that place
abbrev is_place_of_words : Block → ℕ → Bool
is_place_of_words b place = option_eq nat_eq (place_among (block_names b) (word_name b)) (Some place)

abbrev is_name_of_words : Block → ℕ → Bool
is_name_of_words b place = bytes_eq (name_at b place) (word_name b)

abbrev places : Block → List ℕ
places b = range_with_len 0 (length (block_names b))

same_at_places : (b : Block) → map (is_place_of_words b) (places b) ≡ map (is_name_of_words b) (places b)
same_at_places b = grind arith

-- words stand where their name does
pub words_stand : (b : Block) (place : ℕ) → place < length (block_names b) → option_eq nat_eq (place_among (block_names b) (word_name b)) (Some place) ≡ bytes_eq (name_at b place) (word_name b)
words_stand b place inside =
    let n = length (block_names b) in
    sym (get_or-map-range_with_len (is_place_of_words b) 0 n place place false inside (omega arith))
    ∙ (ap (λ tests. get_or tests place false) (same_at_places b) ∙ get_or-map-range_with_len (is_name_of_words b) 0 n place place false inside (omega arith))
