-- The first that fits of a list that is gone through in order. Assumes nothing.
use Rattle.std.proofs.Common.{◌≡◌, ◌+◌, ◌<◌, ℕ, true, false, List, [], ◌∷◌, ◌++◌, map, length, take, drop, get_or, Some, None, option_map, refl, sym, ap, ◌∙◌, ⊎_elim, arith}
use Rattle.std.proofs.lemmas.Bool.{cases_Bool}
use Rattle.std.proofs.lemmas.List.{map_more, drop_more, take-append-drop, map-append}
use Rattle.tables.specs.Refusals.{Fit, first_fit, reason_as}

-- behind those of which none fits
pub first_fit-append : {R : Type 0} (fs gs : List (Fit R)) → first_fit fs ≡ None → first_fit (fs ++ gs) ≡ first_fit gs
first_fit-append [] gs none = refl
first_fit-append (f ∷ fs) gs none =
    let here : f.fits ≡ false = grind (arith, none) in
    rw here (first_fit-append fs gs (grind (arith, none, here)))

-- in front of any
pub first_fit-front : {R : Type 0} (fs gs : List (Fit R)) (r : R) → first_fit fs ≡ Some r → first_fit (fs ++ gs) ≡ Some r
first_fit-front [] gs r e = absurd (let no = e in cc)
first_fit-front (f ∷ fs) gs r e =
    ⊎_elim (λ here. rw here (rw here at e)) (λ here. rw here (first_fit-front fs gs r (rw here at e))) (cases_Bool f.fits)

-- none of both
pub first_fit-neither : {R : Type 0} (fs gs : List (Fit R)) → first_fit (fs ++ gs) ≡ None → (first_fit fs ≡ None) × (first_fit gs ≡ None)
first_fit-neither [] gs none = (refl, none)
first_fit-neither (f ∷ fs) gs none =
    let here : f.fits ≡ false = grind (arith, none) in
    let later = first_fit-neither fs gs (grind (arith, none, here)) in
    (rw here later.0, later.1)

-- where each reason is told as another, so is the first that fits
module _ {R S : Type 0} (f : R → S) where
  pub first_fit-reason_as : (fits : List (Fit R)) → first_fit (map (reason_as f) fits) ≡ option_map f (first_fit fits)
  first_fit-reason_as [] = refl
  first_fit-reason_as (x ∷ fits) = ⊎_elim (λ here. rw here refl) (λ here. rw here (first_fit-reason_as fits)) (cases_Bool x.fits)

  -- where none fits, none did
  pub first_fit-none_told : (fits : List (Fit R)) → first_fit (map (reason_as f) fits) ≡ None → first_fit fits ≡ None
  first_fit-none_told [] none = refl
  first_fit-none_told (x ∷ fits) none =
      let here : x.fits ≡ false = grind (arith, none) in
      rw here (first_fit-none_told fits (grind (arith, none, here)))

-- those before the item x at an index do not fit
module _ {X R : Type 0} (f : X → Fit R) (xs : List X) (i : ℕ) (x : X) (in' : i < length xs) (is : x ≡ get_or xs i x) (none : first_fit (map f (take i xs)) ≡ None) where
  -- nor does this one
  pub none_more : (f x).fits ≡ false → first_fit (map f (take (i + 1) xs)) ≡ None
  none_more here =
      let more : map f (take (i + 1) xs) ≡ map f (take i xs) ++ f x ∷ [] = map_more f xs i x in' ∙ ap (λ y. map f (take i xs) ++ f y ∷ []) (sym is) in
      rw (more, first_fit-append (map f (take i xs)) (f x ∷ []) none, here) refl

  -- this one does
  pub first_here : (f x).fits ≡ true → first_fit (map f xs) ≡ Some (f x).reason
  first_here here =
      let rest : drop i xs ≡ x ∷ drop (i + 1) xs = drop_more xs i x in' ∙ ap (λ y. y ∷ drop (i + 1) xs) (sym is) in
      let all : map f xs ≡ map f (take i xs) ++ f x ∷ map f (drop (i + 1) xs) =
      ap (map f) (sym (take-append-drop i xs) ∙ ap (λ l. take i xs ++ l) rest) ∙ map-append f (take i xs) (x ∷ drop (i + 1) xs) in
      rw (all, first_fit-append (map f (take i xs)) (f x ∷ map f (drop (i + 1) xs)) none, here) refl
