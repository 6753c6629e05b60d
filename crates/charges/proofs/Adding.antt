-- Totals of signed numbers, added up one after another. Assumes nothing.
use Rattle.std.proofs.Common.{◌≡◌, ◌<◌, ◌+◌, ℕ, Bool, cond, List, [], ◌∷◌, ◌++◌, map, length, take, get_or, ℤ, pos, ◌+ℤ◌, ap, ◌∙◌, ⊎_elim, arith}
use Rattle.std.specs.List.{filter}
use Rattle.std.proofs.lemmas.Bool.{cases_Bool}
use Rattle.std.proofs.lemmas.Int.{ints}
use Rattle.std.proofs.lemmas.List.{append-nil, map-append, take_more}
use Rattle.std.proofs.lemmas.List.Elements.{filter_more}
use Rattle.std.proofs.lemmas.List.Sums.{fold-append}
use Rattle.sharing.specs.Laws.{total}

module _ {X : Type 0} (f : X → ℤ) where
  total_push : (xs : List X) (x : X) → total (map f (xs ++ x ∷ [])) ≡ total (map f xs) +ℤ f x
  total_push xs x = ap total (map-append f xs (x ∷ [])) ∙ fold-append ◌+ℤ◌ (pos 0) (map f xs) (f x ∷ [])

  -- one more is added
  pub total_more : (xs : List X) (i : ℕ) (d : X) → i < length xs → total (map f (take (i + 1) xs)) ≡ total (map f (take i xs)) +ℤ f (get_or xs i d)
  total_more xs i d in' = ap (λ l. total (map f l)) (take_more xs i d in') ∙ total_push (take i xs) (get_or xs i d)

  -- one more is added if it passes a test
  pub total_more_of : (p : X → Bool) (xs : List X) (i : ℕ) (d : X) → i < length xs
      → total (map f (filter p (take (i + 1) xs))) ≡ total (map f (filter p (take i xs))) +ℤ cond (p (get_or xs i d)) (f (get_or xs i d)) (pos 0)
  total_more_of p xs i d in' =
      let before : List X = filter p (take i xs) in
      let x : X = get_or xs i d in
      ap (λ l. total (map f l)) (filter_more p xs i d in')
      ∙ ⊎_elim (λ e. rw e (total_push before x)) (λ e. rw e (rw (append-nil before) (omega (arith, ints)))) (cases_Bool (p x))
