-- The names of a block, by their places. Assumes nothing.
use Rattle.std.proofs.Common.{◌≡◌, refl, sym, ◌∙◌, ℕ, zero, suc, ◌<◌, true, false, nat_eq, List, [], ◌∷◌, ◌++◌, map, length, get_or, ⊎_elim, arith}
use Rattle.std.specs.Prelude.{bytes_eq}
use Rattle.std.specs.List.{All, IsDistinct, list_any}
use Rattle.std.proofs.Math.Dec.{eqb-zero-suc, eqb-suc-zero}
use Rattle.std.proofs.lemmas.Cmp.{nat_list_eq_equiv}
use Rattle.std.proofs.lemmas.Bool.{and_left, and_parts, and_right, both_ways, false_from_ne_true, false≢true, not-true, not_from_true, or_cases, or_left, or_right}
use Rattle.std.proofs.lemmas.Bool.Decides.{nat_tests}
use Rattle.std.proofs.lemmas.List.Elements.{All-head, All-tail, All-from_recursion}
use Rattle.std.proofs.lemmas.List.Folds.{list_any-append, list_any_at, list_any_none}
use Rattle.std.proofs.lemmas.Map.Keys.{IsDistinct-head, IsDistinct-tail}
use Rattle.blocks.specs.declared.block.Block.{Block}
use Rattle.blocks.specs.Names.{block_names, name_at}
use Rattle.blocks.specs.Headings.{distinct}

-- a block has no name twice
apart_names : (b : Block) → distinct (block_names b) ≡ true
apart_names b = grind arith

-- a name is not among those behind it
not_behind : (n : List ℕ) (ns : List (List ℕ)) (p : ℕ) → distinct (n ∷ ns) ≡ true → p < length ns
    → bytes_eq n (get_or ns p []) ≡ false
not_behind n ns p apart inside =
    let new = not-true _ (and_parts _ _ apart).0 in
    false_from_ne_true _ (λ same. both_ways _ new (list_any_at (bytes_eq n) ns p [] inside same))

-- names at two places are the same only where the places are
same_among : (ns : List (List ℕ)) → distinct ns ≡ true → (p q : ℕ) → p < length ns → q < length ns
    → bytes_eq (get_or ns p []) (get_or ns q []) ≡ nat_eq p q
same_among [] apart p q p-in q-in = absurd (omega arith)
same_among (n ∷ ns) apart zero zero p-in q-in = nat_list_eq_equiv.refl n
same_among (n ∷ ns) apart zero (suc q) p-in q-in = not_behind n ns q apart (omega arith) ∙ sym (eqb-zero-suc q)
same_among (n ∷ ns) apart (suc p) zero p-in q-in =
    nat_list_eq_equiv.symm (get_or ns p []) n ∙ not_behind n ns p apart (omega arith) ∙ sym (eqb-suc-zero p)
same_among (n ∷ ns) apart (suc p) (suc q) p-in q-in =
    same_among ns (and_parts _ _ apart).1 p q (omega arith) (omega arith) ∙ grind (arith, nat_tests)

-- a name that stands there before
pub repeated : (names : List (List ℕ)) (name : List ℕ) (coming : List (List ℕ)) → list_any (bytes_eq name) names ≡ true
    → distinct (names ++ name ∷ coming) ≡ false
repeated [] name coming there = absurd (false≢true there)
repeated (n ∷ names) name coming there =
    ⊎_elim
    (λ same.
    let there : list_any (bytes_eq n) (names ++ name ∷ coming) ≡ true =
    list_any-append (bytes_eq n) names (name ∷ coming) ∙ or_right _ _ (or_left _ _ (nat_list_eq_equiv.symm n name ∙ same)) in
    and_left _ _ (not_from_true _ there))
    (λ later. and_right _ _ (repeated names name coming later))
    (or_cases _ _ there)

module _ (b : Block) where
  -- whether a number is a place among the names
  abbrev pub IsPlace : ℕ → Type 0
  IsPlace p = p < length (block_names b)

  -- two have one name only where they are one
  pub same_names : (p q : ℕ) → IsPlace p → IsPlace q → bytes_eq (name_at b p) (name_at b q) ≡ nat_eq p q
  same_names = same_among (block_names b) (apart_names b)

  -- a name is among those at some places where its own is one of these
  pub named_among : (p : ℕ) (places : List ℕ) → IsPlace p → All IsPlace places
      → list_any (bytes_eq (name_at b p)) (map (name_at b) places) ≡ list_any (nat_eq p) places
  named_among p [] inside below = refl
  named_among p (q ∷ places) inside below =
      rw (same_names p q inside (All-head IsPlace q places below), named_among p places inside (All-tail IsPlace q places below)) refl

  pub distinct_names : (places : List ℕ) → All IsPlace places → IsDistinct nat_eq places
      → distinct (map (name_at b) places) ≡ true
  distinct_names [] below apart = refl
  distinct_names (p ∷ places) below apart =
      let first = named_among p places (All-head IsPlace p places below) (All-tail IsPlace p places below) in
      let new = list_any_none (nat_eq p) places (All-from_recursion _ places (IsDistinct-head nat_eq p places apart)) in
      let rest = distinct_names places (All-tail IsPlace p places below) (IsDistinct-tail nat_eq p places apart) in
      rw (first, new, rest) refl
