-- What a row that is added leaves of the others. Assumes nothing.
use Rattle.std.proofs.Common.{◌≡◌, ◌≢◌, refl, ◌∙◌, ℕ, Bool, true, false, cond, List, [], ◌∷◌, ◌++◌, Some, is_some, pos, ◌==◌, arith}
use Rattle.std.specs.List.{All, find, list_any, count_by}
use Rattle.std.proofs.lemmas.List.Elements.{All-nil, All-cons, All-head, All-push, All-tail}
use Rattle.std.proofs.lemmas.List.Folds.{find-append}
use Rattle.std.proofs.lemmas.List.Sums.{sum_by-cons}
use Rattle.std.proofs.lemmas.List.Quantifiers.{all_pairs_push}
use Rattle.std.proofs.lemmas.Grind.{common_steps}
use Rattle.tables.specs.Ranges.{is_id}
use Rattle.tables.specs.View.{Table}
use Rattle.tables.specs.Tables.{row_under, is_entered, has_room, with_row}
use Rattle.tables.specs.Keyed.{Keyed}

module _ {T : Type 0} (p : T → Bool) where
  -- where none is found, none passes
  pub none_passes : (xs : List T) → is_some (find p xs) ≡ false → All (λ x. p x ≡ false) xs
  none_passes [] e = All-nil (λ x. p x ≡ false)
  none_passes (x ∷ xs) e =
      let first : p x ≡ false = grind (arith, e) in
      All-cons (λ x. p x ≡ false) x xs first (none_passes xs (grind (arith, e, first)))

  -- what is found stays so
  pub find_kept : (xs : List T) (y : T) → is_some (find p xs) ≡ true → find p (xs ++ y ∷ []) ≡ find p xs
  find_kept xs y e = find-append p xs (y ∷ []) ∙ grind (arith, e)

  -- where none passes, none is counted
  pub count_none : (xs : List T) → All (λ x. p x ≡ false) xs → count_by p xs ≡ 0
  count_none [] h = refl
  count_none (x ∷ xs) h =
      let first : p x ≡ false = All-head (λ x. p x ≡ false) x xs h in
      let rest : count_by p xs ≡ 0 = count_none xs (All-tail (λ x. p x ≡ false) x xs h) in
      sum_by-cons (λ x. cond (p x) 1 0) x xs ∙ grind (arith, first, rest)

  -- where not any passes, none does
  pub none_of_any : (xs : List T) → list_any p xs ≡ false → All (λ x. p x ≡ false) xs
  none_of_any [] e = All-nil (λ x. p x ≡ false)
  none_of_any (x ∷ xs) e =
      let first : p x ≡ false = grind (arith, e) in
      All-cons (λ x. p x ≡ false) x xs first (none_of_any xs (grind (arith, e, first)))

module _ {T : Type 0} (key : T → ℕ) (full : ℕ) where
  -- a row with an id that is new
  pub keyed_push : (t : Table T) (x : T) → has_room t ≡ true → is_id (pos (key x)) ≡ true → is_entered key (key x) t.rows ≡ false → Keyed key full t → Keyed key full (with_row t x)
  keyed_push t x room id new h = record {
    within_room = grind (arith, common_steps);
    bound = h.bound;
    ids = All-push (λ x. is_id (pos (key x)) ≡ true) t.rows x h.ids id;
    distinct = all_pairs_push (λ x y. key x ≢ key y) t.rows x h.distinct
        (λ k d l e. grind (arith, none_passes (λ y. key y == key x) t.rows new k d l));
  }

-- a row with an id that is new is found under it
pub found_pushed : {T : Type 0} (key : T → ℕ) (rows : List T) (x : T) → is_entered key (key x) rows ≡ false → row_under key (key x) (rows ++ x ∷ []) ≡ Some x
found_pushed key rows x new = find-append (λ y. key y == key x) rows (x ∷ []) ∙ grind (arith, new, common_steps)
