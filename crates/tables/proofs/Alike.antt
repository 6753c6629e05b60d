-- What holds of a list holds of one whose elements look the same, where it is about what can be seen. Assumes nothing.
use Rattle.std.proofs.Common.{◌≡◌, refl, sym, ap, ◌∙◌, subst, subst₂, ◌≢◌, ℕ, pos, ◌+◌, ◌≤◌, Bool, true, false, cond, List, [], ◌∷◌, map, length, get_or, Option, Some, None, is_some, option_map, find}
use Rattle.std.specs.List.{All, AllPairs, count_by}
use Rattle.std.specs.Option.{option_map_or}
use Rattle.std.proofs.Math.ListN.{get_or-map}
use Rattle.std.proofs.lemmas.List.{length-map}
use Rattle.std.proofs.lemmas.List.Sums.{sum_by-cons}
use Rattle.tables.specs.Ranges.{is_id}
use Rattle.tables.specs.View.{Table}
use Rattle.tables.specs.Keyed.{Keyed}

module _ {T L : Type 0} (look : T → L) where
  count_looks : (p : L → Bool) (xs : List T) → count_by (λ x. p (look x)) xs ≡ count_by p (map look xs)
  count_looks p [] = refl
  count_looks p (x ∷ xs) =
      sum_by-cons (λ y. cond (p (look y)) 1 0) x xs
      ∙ ap (λ n. cond (p (look x)) 1 0 + n) (count_looks p xs)
      ∙ sym (sum_by-cons (λ l. cond (p l) 1 0) (look x) (map look xs))

  find_looks : (p : L → Bool) (xs : List T) → option_map look (find (λ x. p (look x)) xs) ≡ find p (map look xs)
  find_looks p [] = refl
  find_looks p (x ∷ xs) = first (p (look x)) (find_looks p xs)
    where
      first : (b : Bool) → option_map look (find (λ y. p (look y)) xs) ≡ find p (map look xs) → option_map look (cond b (Some x) (find (λ y. p (look y)) xs)) ≡ cond b (Some (look x)) (find p (map look xs))
      first true e = refl
      first false e = e

  -- what is told of an element that is found
  tell : {X : Type 0} (f : L → X) (d : X) (o : Option T) → option_map_or (λ x. f (look x)) o d ≡ option_map_or f (option_map look o) d
  tell f d None = refl
  tell f d (Some x) = refl

  there : (o : Option T) → is_some o ≡ is_some (option_map look o)
  there None = refl
  there (Some x) = refl

  module _ (xs ys : List T) (same : map look ys ≡ map look xs) where
    pub alike_length : length ys ≡ length xs
    alike_length = sym (length-map ys look) ∙ ap length same ∙ length-map xs look

    alike_at : (k : ℕ) (d : T) → look (get_or xs k d) ≡ look (get_or ys k d)
    alike_at k d = sym (get_or-map look xs k d) ∙ ap (λ ls. get_or ls k (look d)) (sym same) ∙ get_or-map look ys k d

    pub alike_all : (P : L → Type 0) → All (λ x. P (look x)) xs → All (λ y. P (look y)) ys
    alike_all P h k d inside = subst P (alike_at k d) (h k d (rw (sym alike_length) inside))

    pub alike_pairs : (R : L → L → Type 0) → AllPairs (λ x y. R (look x) (look y)) xs → AllPairs (λ x y. R (look x) (look y)) ys
    alike_pairs R h i j d before inside = subst₂ R (alike_at i d) (alike_at j d) (h i j d before (rw (sym alike_length) inside))

    pub alike_count : (p : L → Bool) → count_by (λ y. p (look y)) ys ≡ count_by (λ x. p (look x)) xs
    alike_count p = count_looks p ys ∙ ap (count_by p) same ∙ sym (count_looks p xs)

    alike_find : (p : L → Bool) → option_map look (find (λ y. p (look y)) ys) ≡ option_map look (find (λ x. p (look x)) xs)
    alike_find p = find_looks p ys ∙ ap (find p) same ∙ sym (find_looks p xs)

    pub alike_found : (p : L → Bool) → is_some (find (λ y. p (look y)) ys) ≡ is_some (find (λ x. p (look x)) xs)
    alike_found p = there (find (λ y. p (look y)) ys) ∙ ap is_some (alike_find p) ∙ sym (there (find (λ x. p (look x)) xs))

    pub alike_told : {X : Type 0} (f : L → X) (d : X) (p : L → Bool) → option_map_or (λ y. f (look y)) (find (λ y. p (look y)) ys) d ≡ option_map_or (λ x. f (look x)) (find (λ x. p (look x)) xs) d
    alike_told f d p = tell f d (find (λ y. p (look y)) ys) ∙ ap (λ o. option_map_or f o d) (alike_find p) ∙ sym (tell f d (find (λ x. p (look x)) xs))

-- a table stays keyed where its ids and its room stay
pub keyed_alike : {T : Type 0} (key : T → ℕ) (full : ℕ) (t u : Table T) → map key u.rows ≡ map key t.rows → u.most ≡ t.most → Keyed key full t → Keyed key full u
keyed_alike key full t u ids room h = record {
  within_room = subst₂ (λ n m. n ≤ m) (sym (alike_length key t.rows u.rows ids)) (sym room) h.within_room;
  bound = subst (λ m. m ≤ full) (sym room) h.bound;
  ids = alike_all key t.rows u.rows ids (λ k. is_id (pos k) ≡ true) h.ids;
  distinct = alike_pairs key t.rows u.rows ids (λ k l. k ≢ l) h.distinct;
}
