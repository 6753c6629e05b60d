-- What a line of values holds, value by value. Assumes nothing.
use Rattle.std.proofs.Common.{◌≡◌, refl, ◌∙◌, ℕ, Bool, true, false, nat_eq, List, [], ◌∷◌, ◌++◌, map, length, Option, Some, None, is_some, Bor, pos, not, replicate, arith}
use Rattle.std.specs.Prelude.{bytes_eq}
use Rattle.std.specs.Bool.{then_some}
use Rattle.std.specs.Iterator.{YieldsFirstRef}
use Rattle.std.specs.List.{All, IsDistinct, list_any}
use Rattle.std.proofs.lemmas.List.{append_assoc, append-nil, map-append, map_push, get_or_at, length-append, nil_from_length}
use Rattle.std.proofs.lemmas.Bool.{and_from, and_left, both_ways, false_from_ne_true, false≢true, true≢false}
use Rattle.words.specs.Texts.{words_of}
use Rattle.blocks.specs.declared.block.Block.{Block}
use Rattle.blocks.specs.declared.values.Values.{Values}
use Rattle.blocks.specs.Headings.{distinct}
use Rattle.blocks.specs.Names.{name_at}
use Rattle.blocks.specs.Values.{under, values_fit, may_stand}
use Rattle.blocks.specs.Working.{Held, Put, Read, most_names}
use Rattle.blocks.proofs.Names.{IsPlace, distinct_names, repeated}
use Rattle.blocks.proofs.Unders.{fits_behind, none_under, under_more, held_more, nothing_held}

-- the words of a line before those to come stand under the names before those that are left
pub record ReadSoFar (b : Block) (columns line left : List ℕ) (coming : List (List ℕ)) (v : Values) : Type 0 where
  pub apart : IsDistinct nat_eq columns
  pub below : All (IsPlace b) columns
  pub places : List ℕ
  pub before : List (List ℕ)
  pub columns_are : columns ≡ places ++ left
  pub words_are : words_of line ≡ before ++ coming
  pub fit : values_fit b (map (name_at b) places) before ≡ true
  pub held : Held b (under (map (name_at b) places) before) v

pub nothing_read : {b : Block} {columns line : List ℕ} {v : Values} → IsDistinct nat_eq columns → All (IsPlace b) columns
    → v.numbers ≡ replicate most_names (pos 0) → v.word ≡ None → ReadSoFar b columns line columns (words_of line) v
nothing_read {b} {v = v} apart below numbers word = record {
  apart = apart;
  below = below;
  places = [];
  before = [];
  columns_are = refl;
  words_are = refl;
  fit = refl;
  held = nothing_held b v numbers word;
}

module _ {b : Block} {columns line left : List ℕ} {coming : List (List ℕ)} {v : Values}
    (so_far : ReadSoFar b columns line left coming v) where
  -- the line fits as what is left of it does
  fits_left : values_fit b (map (name_at b) columns) (words_of line) ≡ values_fit b (map (name_at b) left) coming
  fits_left = rw (so_far.columns_are, so_far.words_are, map-append) (fits_behind b _ _ _ coming so_far.fit)

  module _ {p : ℕ} {later : List ℕ} (column : left ≡ p ∷ later) where
    columns_now : columns ≡ so_far.places ++ p ∷ later
    columns_now = rw (← column) so_far.columns_are

    pub next_inside : IsPlace b p
    next_inside =
        let below : All (IsPlace b) (so_far.places ++ p ∷ later) = rw (← columns_now) so_far.below in
        rw get_or_at at (below (length so_far.places) p (simp length-append (omega arith)))

    -- the name of the next column headed none so far
    next_new : list_any (bytes_eq (name_at b p)) (map (name_at b) so_far.places) ≡ false
    next_new =
        let apart : distinct (map (name_at b) so_far.places ++ name_at b p ∷ map (name_at b) later) ≡ true =
        rw (columns_now, map-append) at (distinct_names b columns so_far.below so_far.apart) in
        false_from_ne_true _
        (λ there. both_ways _ (repeated (map (name_at b) so_far.places) (name_at b p) (map (name_at b) later) there) apart)

    -- a line that ends too soon
    pub cut_short : coming ≡ [] → values_fit b (map (name_at b) columns) (words_of line) ≡ false
    cut_short none = rw (fits_left, column, none) refl

    module _ {w : List ℕ} {rest : List (List ℕ)} (next : coming ≡ w ∷ rest) where
      -- a value that may not stand in its column
      pub misfit : may_stand b (name_at b p) w ≡ false → values_fit b (map (name_at b) columns) (words_of line) ≡ false
      misfit bad = rw (fits_left, column, next) (and_left _ _ bad)

      pub value_read : {after : Values} {done : Unit {0}} → Put b p w v after (Some done) → ReadSoFar b columns line later rest after
      value_read {after} {done} put =
          let n = name_at b p in
          let names = map (name_at b) so_far.places in
          let ws = so_far.before in
          record {
            apart = so_far.apart;
            below = so_far.below;
            places = so_far.places ++ p ∷ [];
            before = ws ++ w ∷ [];
            columns_are = rw append_assoc columns_now;
            words_are = rw (append_assoc, ← next) so_far.words_are;
            fit = rw map_push (fits_behind b names (n ∷ []) ws (w ∷ []) so_far.fit ∙ and_from _ _ put.0 refl);
            held = held_more b p next_inside w (under names ws) _
                (λ name. rw map_push (under_more b names ws n w name so_far.fit next_new))
                v after done (none_under names ws n next_new) so_far.held put;
          }

  -- all columns have their values, and no word is left, or some are
  pub all_read : length left ≡ 0 → (r : Option (Bor (List ℕ))) (none : Bool) (rest : List (List ℕ))
      → YieldsFirstRef (λ ws. ws) coming r rest → is_some r ≡ not none → Read (b, map (name_at b) columns) line (then_some none v)
  all_read empty None true rest yields told =
      let filled : columns ≡ so_far.places = rw (← append-nil so_far.places, ← nil_from_length left empty) so_far.columns_are in
      let read : words_of line ≡ so_far.before = rw (← append-nil so_far.before, ← yields.0) so_far.words_are in
      (rw (fits_left, nil_from_length left empty, yields.0) refl, rw (filled, read) so_far.held)
  all_read empty (Some w) false rest yields told = rw (fits_left, nil_from_length left empty, yields) refl
  all_read empty None false rest yields told = absurd (false≢true told)
  all_read empty (Some w) true rest yields told = absurd (true≢false told)
