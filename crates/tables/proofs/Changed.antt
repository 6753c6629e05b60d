-- What changing a row by its id, or all rows, comes to. Assumes nothing.
use Rattle.std.proofs.Common.{◌≡◌, refl, sym, ap, ◌∙◌, ℕ, ◌==◌, map, append-nil, Option, Some, None, slice_set, slice_index_or, arith, Bool, true, false, cond, zero, suc, eqb-true, option_map, [], ◌∷◌, subst, List, length, nat_lt, find}
use Rattle.std.specs.List.{All}
use Rattle.std.specs.Option.{option_map_or}
use Rattle.std.proofs.lemmas.List.Elements.{All-head, All-set, All-tail}
use Rattle.std.proofs.lemmas.List.Folds.{find-set}
use Rattle.std.proofs.lemmas.List.{set-get_or, drop_all, take_all}
use Rattle.std.proofs.Math.Seq.{map-set_same}
use Rattle.std.specs.List.{position_or_len}
use Rattle.std.proofs.lemmas.List.Quantifiers.{position-Some}
use Rattle.std.proofs.lemmas.Option.{cond_some}
use Rattle.tables.specs.View.{Table}
use Rattle.tables.specs.Tables.{row_under, position_of, with_replaced, with_changed, with_first_rows}
use Rattle.tables.proofs.Places.{find_there, find_nowhere}

module _ {T : Type 0} (p : T → Bool) where
  -- a row that is found passes
  found_passes : (xs : List T) (x : T) → find p xs ≡ Some x → p x ≡ true
  found_passes [] x e = absurd (grind (arith, e))
  found_passes (y ∷ ys) x e = first (p y) refl (found_passes ys x) e
    where
      first : (b : Bool) → p y ≡ b → (find p ys ≡ Some x → p x ≡ true) → cond b (Some y) (find p ys) ≡ Some x → p x ≡ true
      first true here rest e = grind (arith, e, here)
      first false here rest e = rest e

  -- and what holds of all holds of it
  pub found_holds : (P : T → Type 0) (xs : List T) (x : T) → All P xs → find p xs ≡ Some x → P x
  found_holds P [] x h e = absurd (grind (arith, e))
  found_holds P (y ∷ ys) x h e = first (p y) (All-head P y ys h) (found_holds P ys x (All-tail P y ys h)) e
    where
      first : (b : Bool) → P y → (find p ys ≡ Some x → P x) → cond b (Some y) (find p ys) ≡ Some x → P x
      first true here rest e = let same : y ≡ x = grind (arith, e) in subst P same here
      first false here rest e = rest e

  -- one that does not pass, in the place of one that did not
  find_set_other : (xs : List T) (i : ℕ) (y d : T) → p y ≡ false → p (slice_index_or xs i d) ≡ false → find p (slice_set xs i y) ≡ find p xs
  find_set_other [] i y d new old = refl
  find_set_other (x ∷ xs) zero y d new old = rw (new, old) refl
  find_set_other (x ∷ xs) (suc i) y d new old = rw (find_set_other xs i y d new old) refl

module _ {T : Type 0} (key : T → ℕ) (id : ℕ) (t : Table T) where
  -- the row that is found, changed and put back
  pub changed_found : (change : T → T) (x : T) → row_under key id t.rows ≡ Some x → with_changed key id change t ≡ with_replaced key id t (change x)
  unfolding with_changed
  changed_found change x e = ap (λ o. option_map_or (λ y. with_replaced key id t (change y)) o t) e

  -- the same of another that is equal to it
  pub changed_put : (change : T → T) (x y : T) → row_under key id t.rows ≡ Some x → y ≡ change x → with_replaced key id t y ≡ with_changed key id change t
  changed_put change x y e is = ap (with_replaced key id t) is ∙ sym (changed_found change x e)

  -- where none is found, nothing changes
  unchanged : (change : T → T) → row_under key id t.rows ≡ None → with_changed key id change t ≡ t
  unfolding with_changed
  unchanged change e = ap (λ o. option_map_or (λ y. with_replaced key id t (change y)) o t) e

  -- the row that is found stands at its position
  stands : (x : T) (i : ℕ) → row_under key id t.rows ≡ Some x → position_of key id t.rows ≡ Some i → slice_index_or t.rows i x ≡ x
  stands x i e there =
      let same : Some (slice_index_or t.rows i x) ≡ Some x = sym (find_there (λ y. key y == id) t.rows i x there) ∙ e in
      grind (arith, same)

  -- a row that looks like the one that is found, in its place: all rows look as before
  looks_same : {X : Type 0} (look : T → X) (x y : T) → row_under key id t.rows ≡ Some x → look y ≡ look x → map look (with_replaced key id t y).rows ≡ map look t.rows
  unfolding with_replaced
  looks_same look x y e same = at (position_of key id t.rows) refl
    where
      at : (o : Option ℕ) → position_of key id t.rows ≡ o → map look (option_map_or (λ i. slice_set t.rows i y) o t.rows) ≡ map look t.rows
      at None there = refl
      at (Some i) there = map-set_same look t.rows i y x (same ∙ ap look (sym (stands x i e there)))

  -- the row that is found, put back as it is
  pub replaced_same : (x : T) → row_under key id t.rows ≡ Some x → with_replaced key id t x ≡ t
  unfolding with_replaced
  replaced_same x e = at (position_of key id t.rows) refl
    where
      at : (o : Option ℕ) → position_of key id t.rows ≡ o → record t { rows = option_map_or (λ i. slice_set t.rows i x) o t.rows } ≡ t
      at None there = refl
      at (Some i) there = ap (λ rows. record t { rows = rows }) (ap (slice_set t.rows i) (sym (stands x i e there)) ∙ set-get_or t.rows i x)

  -- what holds of all rows, and of the one that is put in the place of one of them, holds of all afterwards
  replaced_all : (P : T → Type 0) (y : T) → P y → All P t.rows → All P (with_replaced key id t y).rows
  unfolding with_replaced
  replaced_all P y new h = at (position_of key id t.rows)
    where
      at : (o : Option ℕ) → All P (option_map_or (λ i. slice_set t.rows i y) o t.rows)
      at None = h
      at (Some i) = All-set P t.rows i y new h

  -- the row that was put in its place is found under the id
  replaced_found : (x y : T) → row_under key id t.rows ≡ Some x → key y ≡ key x → row_under key id (with_replaced key id t y).rows ≡ Some y
  unfolding with_replaced
  replaced_found x y e same = at (position_of key id t.rows) refl
    where
      p : T → Bool
      p z = key z == id

      passes : p y ≡ true
      passes = ap (λ k. k == id) same ∙ found_passes p t.rows x e

      at : (o : Option ℕ) → position_of key id t.rows ≡ o → row_under key id (option_map_or (λ i. slice_set t.rows i y) o t.rows) ≡ Some y
      at None there = absurd (grind (arith, find_nowhere p t.rows there, e))
      at (Some i) there =
          let first = cond_some (nat_lt (position_or_len p t.rows) (length t.rows)) (position_or_len p t.rows) i there in
          find-set p t.rows i y (sym first.1) (position-Some p t.rows i y there).0 passes

  module _ (change : T → T) where
    -- a change that cannot be seen leaves all rows looking as before
    pub changed_looks : {X : Type 0} (look : T → X) → ((x : T) → look (change x) ≡ look x) → map look (with_changed key id change t).rows ≡ map look t.rows
    changed_looks look same = at (row_under key id t.rows) refl
      where
        at : (o : Option T) → row_under key id t.rows ≡ o → map look (with_changed key id change t).rows ≡ map look t.rows
        at None e = ap (λ u. map look u.rows) (unchanged change e)
        at (Some x) e = ap (λ u. map look u.rows) (changed_found change x e) ∙ looks_same look x (change x) e (same x)

    -- what holds of all rows, and of the one that is found, changed, holds of all afterwards
    pub changed_all : (P : T → Type 0) → ((x : T) → row_under key id t.rows ≡ Some x → P (change x)) → All P t.rows → All P (with_changed key id change t).rows
    changed_all P new h = at (row_under key id t.rows) refl
      where
        at : (o : Option T) → row_under key id t.rows ≡ o → All P (with_changed key id change t).rows
        at None e = subst (λ u. All P u.rows) (sym (unchanged change e)) h
        at (Some x) e = subst (λ u. All P u.rows) (sym (changed_found change x e)) (replaced_all P (change x) (new x e) h)

    -- the room stays
    pub changed_room : (with_changed key id change t).most ≡ t.most
    unfolding with_changed with_replaced
    changed_room = at (row_under key id t.rows)
      where
        at : (o : Option T) → (option_map_or (λ y. with_replaced key id t (change y)) o t).most ≡ t.most
        at None = refl
        at (Some x) = refl

    -- what is found afterwards under the id is the row, changed
    pub found_changed : ((x : T) → key (change x) ≡ key x) → (x : T) → row_under key id t.rows ≡ Some x → row_under key id (with_changed key id change t).rows ≡ Some (change x)
    found_changed same x e = ap (λ u. row_under key id u.rows) (changed_found change x e) ∙ replaced_found x (change x) e (same x)

    -- and the same where none is found
    pub found_own : ((x : T) → key (change x) ≡ key x) → row_under key id (with_changed key id change t).rows ≡ option_map change (row_under key id t.rows)
    found_own same = at (row_under key id t.rows) refl
      where
        at : (o : Option T) → row_under key id t.rows ≡ o → row_under key id (with_changed key id change t).rows ≡ option_map change o
        at None e = ap (λ u. row_under key id u.rows) (unchanged change e) ∙ e
        at (Some x) e = found_changed same x e

    -- what is found under another id is as before
    pub found_other : ((x : T) → key (change x) ≡ key x) → (other : ℕ) → (id == other) ≡ false → row_under key other (with_changed key id change t).rows ≡ row_under key other t.rows
    unfolding with_replaced
    found_other same other ne = at (row_under key id t.rows) refl
      where
        not_it : (z : T) → (key z == id) ≡ true → (key z == other) ≡ false
        not_it z e = ap (λ j. j == other) (eqb-true (key z) id e) ∙ ne

        at : (o : Option T) → row_under key id t.rows ≡ o → row_under key other (with_changed key id change t).rows ≡ row_under key other t.rows
        at None e = ap (λ u. row_under key other u.rows) (unchanged change e)
        at (Some x) e = ap (λ u. row_under key other u.rows) (changed_found change x e) ∙ put (position_of key id t.rows) refl
          where
            its_id : (key x == id) ≡ true
            its_id = found_passes (λ z. key z == id) t.rows x e

            put : (o : Option ℕ) → position_of key id t.rows ≡ o → row_under key other (option_map_or (λ i. slice_set t.rows i (change x)) o t.rows) ≡ row_under key other t.rows
            put None there = refl
            put (Some i) there =
                find_set_other (λ z. key z == other) t.rows i (change x) x
                (not_it (change x) (ap (λ k. k == id) (same x) ∙ its_id))
                (ap (λ z. key z == other) (stands x i e there) ∙ not_it x its_id)

-- as many other rows are all the rows
pub rewritten_whole : {T : Type 0} (t : Table T) (rows : List T) → length rows ≡ length t.rows → with_first_rows t rows ≡ record t { rows = rows }
unfolding with_first_rows
rewritten_whole t rows long =
    rw (drop_all (length rows) t.rows (omega arith), append-nil, take_all (length t.rows) rows (omega arith)) refl
