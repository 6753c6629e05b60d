-- What heads a block: which it is, and the names of its columns. Assumes nothing.
use Rattle.std.specs.Prelude.{ℕ, nat_le, Bool, true, not, ◌&&◌, if◌then◌else◌, List, [], ◌∷◌, length, get_or, Option, Some, None, bytes_eq}
use Rattle.std.specs.List.{list_any, list_all}
use Rattle.words.specs.Texts.{words_of}
use Rattle.blocks.specs.declared.block.Block.{Block}
use Rattle.blocks.specs.Names.{block_names, block_of}

-- the most bytes of a line that is read
abbrev pub longest_line : ℕ
longest_line = 200

abbrev pub is_short : List ℕ → Bool
is_short line = nat_le (length line) longest_line

-- whether a name is one of a block
abbrev pub is_name_of : Block → List ℕ → Bool
is_name_of b name = list_any (bytes_eq name) (block_names b)

-- no name stands there twice
abbrev pub distinct : List (List ℕ) → Bool
distinct [] = true
distinct (name ∷ names) = not (list_any (bytes_eq name) names) && distinct names

-- whether a line is one of names of a block
abbrev pub is_heading : Block → List ℕ → Bool
is_heading b line = is_short line && (list_all (is_name_of b) (words_of line) && distinct (words_of line))

-- a block, with the names of its columns
abbrev pub headed : List ℕ → Option Block → Option (Block × List (List ℕ))
headed line None = None
headed line (Some b) = if is_heading b line then Some (b, words_of line) else None

-- what a line of names heads: the block that its first names
abbrev pub heading_of : List ℕ → Option (Block × List (List ℕ))
heading_of line = headed line (block_of (get_or (words_of line) 0 []))
