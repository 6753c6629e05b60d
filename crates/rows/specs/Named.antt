-- What a word names. Assumes nothing.
use Rattle.std.specs.Prelude.{ℕ, List, Option, find, bytes_eq}

-- the one of some kinds whose word it is
abbrev pub kind_by_word : {K : Type 0} → (K → List ℕ) → List K → List ℕ → Option K
kind_by_word word_of kinds word = find (λ k. bytes_eq (word_of k) word) kinds
