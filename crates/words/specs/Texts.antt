-- Texts, as lists of bytes, and what stands between their separators. Assumes nothing.
use Rattle.std.specs.Prelude.{◌≡◌, ℕ, ◌==◌, ◌&&◌, Bool, false, if◌then◌else◌, List, [], ◌∷◌, ◌++◌, Option, Some, None}
use Rattle.std.specs.List.{list_all}
use Rattle.std.specs.Char.{is_ascii_alphabetic, is_ascii_alphanumeric}

-- a byte put in front of the first piece
abbrev pub onto : ℕ → List (List ℕ) → List (List ℕ)
onto b [] = (b ∷ []) ∷ []
onto b (piece ∷ pieces) = (b ∷ piece) ∷ pieces

-- the pieces of a text that a separator parts: one more than there are separators in it
abbrev pub pieces : ℕ → List ℕ → List (List ℕ)
pieces separator [] = [] ∷ []
pieces separator (b ∷ text) = if b == separator then [] ∷ pieces separator text else onto b (pieces separator text)

-- the words of a line: what single spaces part
abbrev pub words_of : List ℕ → List (List ℕ)
words_of line = pieces 32 line

-- those of what is left of a line, if anything is
abbrev pub words_left : Option (List ℕ) → List (List ℕ)
words_left None = []
words_left (Some line) = words_of line

-- a letter, followed by letters and digits
abbrev pub is_word : List ℕ → Bool
is_word [] = false
is_word (b ∷ text) = is_ascii_alphabetic b && list_all is_ascii_alphanumeric text

-- a text's first piece, and what stands behind its first separator, if there is one
abbrev pub Cut : ℕ → List ℕ → List ℕ → Option (List ℕ) → Type 0
Cut separator text first None = pieces separator text ≡ first ∷ []
Cut separator text first (Some rest) = (pieces separator text ≡ first ∷ pieces separator rest) × (text ≡ first ++ separator ∷ rest)
