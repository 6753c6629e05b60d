-- What a line heads, name by name. Assumes nothing.
use Rattle.std.proofs.Common.{◌≡◌, refl, sym, ap, ◌∙◌, ℕ, ◌<◌, ◌≤◌, true, false, nat_eq, List, [], ◌∷◌, ◌++◌, map, length, get_or, Option, Some, None, arith}
use Rattle.std.specs.Prelude.{bytes_eq}
use Rattle.std.specs.Cmp.{nat_eq_equiv}
use Rattle.std.specs.List.{All, IsDistinct, list_any, list_all, position_or_len}
use Rattle.std.proofs.lemmas.Cmp.{nat_list_eq_equiv}
use Rattle.std.proofs.lemmas.Grind.{common_steps}
use Rattle.std.proofs.lemmas.Bool.{and_left, and_right, and_from, cond-true, cond-false, eqb-true, lt-leb, le-leb}
use Rattle.std.proofs.lemmas.List.{append_assoc, append-nil, map_push, length_push}
use Rattle.std.proofs.lemmas.List.Elements.{All-nil, All-head, All-tail, All-push, All-contains}
use Rattle.std.proofs.lemmas.List.Folds.{list_any_at, list_any_none, list_all-append}
use Rattle.std.proofs.lemmas.List.Quantifiers.{position-Some}
use Rattle.std.proofs.lemmas.List.Sums.{fails_before_first}
use Rattle.std.proofs.lemmas.Slice.Eq.{bytes_eq-Decides}
use Rattle.std.proofs.lemmas.Map.Keys.{IsDistinct-push}
use Rattle.std.proofs.lemmas.Map.Views.{Contains-from_any}
use Rattle.std.proofs.lemmas.Map.Steps.{length-le_from_distinct_below}
use Rattle.words.specs.Texts.{words_of}
use Rattle.blocks.specs.declared.block.Block.{Block}
use Rattle.blocks.specs.Names.{block_names, block_of, name_at, place_among}
use Rattle.blocks.specs.Headings.{distinct, headed, heading_of, is_heading, is_name_of, is_short, longest_line}
use Rattle.blocks.specs.Working.{most_names}
use Rattle.blocks.proofs.Columns.{few_names}
use Rattle.blocks.proofs.Names.{IsPlace, named_among, distinct_names, repeated}

-- a line that is too long
pub long_heads_nothing : (line : List ℕ) → longest_line < length line → heading_of line ≡ None
long_heads_nothing line long = at (block_of (get_or (words_of line) 0 []))
  where
    at : (o : Option Block) → headed line o ≡ None
    at None = refl
    at (Some b) = rw (lt-leb (length line) longest_line long) refl

-- a name that has no place is none of those
unplaced : (names : List (List ℕ)) (name : List ℕ) → place_among names name ≡ None → list_any (bytes_eq name) names ≡ false
unplaced names name none =
    let far : length names ≤ position_or_len (λ n. bytes_eq n name) names = grind (arith, common_steps) in
    list_any_none (bytes_eq name) names (λ k d inside.
    nat_list_eq_equiv.symm name (get_or names k d) ∙ fails_before_first (λ n. bytes_eq n name) names k d (omega arith))

-- and one that has a place stands there
placed : (b : Block) (name : List ℕ) (p : ℕ) → place_among (block_names b) name ≡ Some p → IsPlace b p × (name_at b p ≡ name)
placed b name p is =
    let (inside, same, _) = position-Some (λ n. bytes_eq n name) (block_names b) p [] is in
    (inside, (bytes_eq-Decides (name_at b p) name).0 same)

all_known : (b : Block) (places : List ℕ) → All (IsPlace b) places → list_all (is_name_of b) (map (name_at b) places) ≡ true
all_known b [] below = refl
all_known b (p ∷ places) below =
    let inside = All-head (IsPlace b) p places below in
    let here = list_any_at (bytes_eq (name_at b p)) (block_names b) p [] inside (nat_list_eq_equiv.refl (name_at b p)) in
    and_from _ _ here (all_known b places (All-tail (IsPlace b) p places below))

flipped : (p : ℕ) (places : List ℕ) → list_any (λ q. nat_eq q p) places ≡ list_any (nat_eq p) places
flipped p [] = refl
flipped p (q ∷ places) = rw (nat_eq_equiv.symm q p, flipped p places) refl

-- the names of a line before those to come stand at some places among those of the block that it names
pub record HeadsSoFar (line : List ℕ) (b : Block) (places : List ℕ) (coming : List (List ℕ)) : Type 0 where
  pub block : heading_of line ≡ headed line (Some b)
  pub words : words_of line ≡ map (name_at b) places ++ coming
  pub below : All (IsPlace b) places
  pub apart : IsDistinct nat_eq places

pub none_placed : {line first : List ℕ} {rest : List (List ℕ)} {b : Block}
    → words_of line ≡ first ∷ rest → block_of first ≡ Some b → HeadsSoFar line b [] (words_of line)
unfolding IsDistinct
none_placed {line} {b = b} words named = record {
  block = ap (headed line) (ap (λ ws. block_of (get_or ws 0 [])) words ∙ named);
  words = refl;
  below = All-nil (IsPlace b);
  apart = tt;
}

module _ {line : List ℕ} {b : Block} {places : List ℕ} {left : List (List ℕ)} (so_far : HeadsSoFar line b places left) where
  module _ {name : List ℕ} {coming : List (List ℕ)} (next : left ≡ name ∷ coming) where
    words_now : words_of line ≡ map (name_at b) places ++ name ∷ coming
    words_now = rw (← next) so_far.words

    pub unknown_name : place_among (block_names b) name ≡ None → heading_of line ≡ None
    unknown_name none =
        let unknown : list_all (is_name_of b) (words_of line) ≡ false =
        rw words_now (list_all-append (is_name_of b) (map (name_at b) places) (name ∷ coming)
        ∙ and_right _ _ (and_left _ _ (unplaced (block_names b) name none))) in
        so_far.block ∙ cond-false _ _ _ (and_right (is_short line) _ (and_left _ _ unknown))

    module _ {p : ℕ} (is : place_among (block_names b) name ≡ Some p) where
      -- a name stood there before where its place did
      before : list_any (λ q. nat_eq q p) places ≡ list_any (bytes_eq name) (map (name_at b) places)
      before =
          let (inside, same) = placed b name p is in
          rw (← same) (flipped p places ∙ sym (named_among b p places inside so_far.below))

      pub repeated_name : list_any (λ q. nat_eq q p) places ≡ true → heading_of line ≡ None
      repeated_name there =
          let twice : distinct (words_of line) ≡ false =
          rw words_now (repeated (map (name_at b) places) name coming (sym before ∙ there)) in
          so_far.block ∙ cond-false _ _ _ (and_right (is_short line) _ (and_right (list_all (is_name_of b) (words_of line)) _ twice))

      pub name_placed : list_any (λ q. nat_eq q p) places ≡ false → HeadsSoFar line b (places ++ p ∷ []) coming
      name_placed new = let (inside, same) = placed b name p is in record {
        block = so_far.block;
        words = rw (map_push, append_assoc, same) words_now;
        below = All-push (IsPlace b) places p so_far.below inside;
        apart = IsDistinct-push nat_eq_equiv places p so_far.apart (sym (flipped p places) ∙ new);
      }

      pub room : list_any (λ q. nat_eq q p) places ≡ false → length places < most_names
      room new =
          let more = places ++ p ∷ [] in
          let then = name_placed new in
          let few = length-le_from_distinct_below more (length (block_names b)) then.apart
          (λ q there. All-contains (IsPlace b) more q then.below (Contains-from_any eqb-true q more there)) in
          omega (arith, length_push places p, few_names b)

  pub all_placed : length line ≤ longest_line → left ≡ [] → heading_of line ≡ Some (b, map (name_at b) places)
  all_placed short none =
      let words : words_of line ≡ map (name_at b) places = rw (← append-nil (map (name_at b) places), ← none) so_far.words in
      let known : list_all (is_name_of b) (words_of line) ≡ true = rw words (all_known b places so_far.below) in
      let apart : distinct (words_of line) ≡ true = rw words (distinct_names b places so_far.below so_far.apart) in
      let heads : is_heading b line ≡ true = and_from _ _ (le-leb (length line) longest_line short) (and_from _ _ known apart) in
      so_far.block ∙ cond-true _ _ _ heads ∙ ap (λ names. Some (b, names)) words
