-- What `map` gives of an array. Assumes nothing.
use Rattle.std.proofs.Common.{◌≡◌, ℕ, List, [], ◌∷◌, map, length, sym, ◌∙◌, arith}
use denote.Param.Members.{Mut}
use Rattle.std.specs.Fn.{Called}
use Rattle.std.specs.Array.{IsMapOf}
use Rattle.std.proofs.lemmas.List.{same_lists, get_or-map, length-map}

-- h of each element, where each call gives h of its argument
pub map-from_IsMapOf : {F A B : Type 0} (g : Mut F (A × Unit {0}) B) (h : A → B) {f : F} {xs : List A} {ys : List B} {n : ℕ}
    → length xs ≡ n → IsMapOf g f xs ys n → ((p q : F) (x : A) (y : B) → Called g p (x, tt) y q → y ≡ h x) → ys ≡ map h xs
map-from_IsMapOf g h {xs = []} {ys = ys} long is gives = same_lists ys [] (omega arith) (λ i e k. absurd (omega arith))
map-from_IsMapOf g h {xs = x ∷ xs} {ys = ys} long is gives =
    same_lists ys (map h (x ∷ xs)) (omega (arith, length-map (x ∷ xs) h)) (λ i e k.
    let call = is.at i x e (omega arith) in
    gives call.0 call.1 _ _ call.2 ∙ sym (get_or-map h (x ∷ xs) i x e (omega arith)))
