-- What follows where no reason fits, and of a number that is an id. Assumes nothing.
use Rattle.std.proofs.Common.{◌≡◌, refl, true, false, List, [], ◌∷◌, ◌++◌, map, Option, Some, None, ℤ, pos, negsuc, arith}
use Rattle.std.specs.List.{All}
use Rattle.std.proofs.lemmas.List.Elements.{All-nil, All-cons}
use Rattle.tables.specs.Refusals.{Fit, first_fit, state_after}
use Rattle.tables.specs.Ranges.{in_range, is_id, as_id}

-- no reason of a list fits
abbrev pub NoneFits : {R : Type 0} → List (Fit R) → Type 0
NoneFits [] = Unit {0}
NoneFits (f ∷ fs) = (f.fits ≡ false) × NoneFits fs

-- where there is no first that fits
pub none_fits : {R : Type 0} (fs : List (Fit R)) → first_fit fs ≡ None → NoneFits fs
none_fits [] e = tt
none_fits (f ∷ fs) e =
    let here : f.fits ≡ false = grind (arith, e) in
    (here, none_fits fs (grind (arith, e, here)))

-- of two lists, and of one with a reason for each element
pub none_of_both : {R : Type 0} (fs gs : List (Fit R)) → NoneFits (fs ++ gs) → NoneFits fs × NoneFits gs
none_of_both [] gs none = (tt, none)
none_of_both (f ∷ fs) gs none = let later = none_of_both fs gs none.1 in ((none.0, later.0), later.1)

pub none_of_each : {X R : Type 0} (f : X → Fit R) (xs : List X) → NoneFits (map f xs) → All (λ x. (f x).fits ≡ false) xs
none_of_each f [] none = All-nil (λ x. (f x).fits ≡ false)
none_of_each f (x ∷ xs) none = All-cons (λ x. (f x).fits ≡ false) x xs none.0 (none_of_each f xs none.1)

-- what holds of what a call makes, and of what was there, holds of what it leaves
pub state_after_either : {R H : Type 0} (P : H → Type 0) (o : Option R) (before made : H) → (o ≡ None → P made) → P before → P (state_after o made before)
state_after_either P None before made f w = f refl
state_after_either P (Some r) before made f w = w

-- a number inside the span is the id that it gives
pub id_in_span : (z : ℤ) → is_id z ≡ true → is_id (pos (as_id z)) ≡ true
unfolding in_range
id_in_span (pos n) e = e
id_in_span (negsuc n) e = absurd (grind (arith, e))
