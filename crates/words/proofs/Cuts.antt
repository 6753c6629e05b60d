-- Where a text is cut, by where its first separator stands.
use Rattle.std.proofs.Common.{◌≡◌, refl, ℕ, zero, suc, ◌<◌, ◌≤◌, ◌==◌, length, take, drop, get_or, List, [], ◌∷◌, ◌++◌, ap, eqb→eq, true, false, Some, None, ◌-◌, ◌+◌, arith}
use Rattle.std.proofs.lemmas.Grind.{common_steps}
use Rattle.std.proofs.lemmas.List.{take_all, length-drop}
use native.Mathlib.Numerals.{unary_clauses}
use Rattle.std.specs.Prelude.{position}
use Rattle.std.specs.List.{position_or_len}
use Rattle.std.proofs.lemmas.List.Quantifiers.{position-Some}
use Rattle.std.proofs.lemmas.List.Sums.{fails_before_first}
use Rattle.words.specs.Texts.{pieces}

-- in front of the first separator, and behind it
pieces-at : (c : ℕ) (text : List ℕ) (i : ℕ) → i < length text → (get_or text i 0 == c) ≡ true
    → ((k : ℕ) → k < i → (get_or text k 0 == c) ≡ false) → pieces c text ≡ take i text ∷ pieces c (drop (suc i) text)
pieces-at c [] i inside hit miss = absurd (omega (arith))
pieces-at c (b ∷ text) zero inside hit miss = rw hit refl
pieces-at c (b ∷ text) (suc i) inside hit miss =
    rw (miss 0 (omega (arith)), pieces-at c text i (omega (arith)) hit (λ k below. miss (suc k) (omega (arith)))) refl

parts-at : (c : ℕ) (text : List ℕ) (i : ℕ) → i < length text → (get_or text i 0 == c) ≡ true → text ≡ take i text ++ c ∷ drop (suc i) text
parts-at c [] i inside hit = absurd (omega (arith))
parts-at c (b ∷ text) zero inside hit = ap (λ x. x ∷ text) (eqb→eq b c (rw hit tt))
parts-at c (b ∷ text) (suc i) inside hit = ap (λ l. b ∷ l) (parts-at c text i (omega (arith)) hit)

pub pieces-some : (c : ℕ) (text : List ℕ) (i : ℕ) → position (λ b. b == c) text ≡ Some i
    → (pieces c text ≡ take i text ∷ pieces c (take (length text - (i + 1)) (drop (i + 1) text)))
    × (text ≡ take i text ++ c ∷ take (length text - (i + 1)) (drop (i + 1) text))
pieces-some c text i is =
    let (inside, hit, miss) = position-Some (λ b. b == c) text i 0 is in
    let rest : take (length text - (i + 1)) (drop (i + 1) text) ≡ drop (i + 1) text =
    take_all (length text - (i + 1)) (drop (i + 1) text) (omega (arith, length-drop (i + 1) text)) in
    (rw rest (simp unary_clauses (pieces-at c text i inside hit miss)), rw rest (simp unary_clauses (parts-at c text i inside hit)))

-- without a separator
pieces-whole : (c : ℕ) (text : List ℕ) → ((k : ℕ) → k < length text → (get_or text k 0 == c) ≡ false) → pieces c text ≡ text ∷ []
pieces-whole c [] miss = refl
pieces-whole c (b ∷ text) miss = rw (miss 0 (omega (arith)), pieces-whole c text (λ k below. miss (suc k) (omega (arith)))) refl

pub pieces-none : (c : ℕ) (text : List ℕ) → position (λ b. b == c) text ≡ None → pieces c text ≡ text ∷ []
pieces-none c text is =
    let far : length text ≤ position_or_len (λ b. b == c) text = grind (arith, common_steps) in
    pieces-whole c text (λ k below. fails_before_first (λ b. b == c) text k 0 (omega (arith)))
