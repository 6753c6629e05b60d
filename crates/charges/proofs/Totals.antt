-- Totals of numbers, one for each element of a list, and of columns. Assumes nothing.
use Rattle.std.proofs.Common.{◌≡◌, ℕ, ◌+◌, ◌-◌, zero, suc, Bool, true, false, cond, List, [], ◌∷◌, ◌++◌, map, length, take, drop, replicate, ℤ, pos, ◌+ℤ◌, refl, sym, ap, ◌∙◌, ◌⊎◌, ⊎_elim, inl, inr, arith}
use Rattle.std.specs.List.{All, count_by}
use Rattle.std.proofs.lemmas.Int.{ints}
use Rattle.std.proofs.lemmas.List.Elements.{All-head, All-tail}
use Rattle.std.proofs.lemmas.List.Sums.{sum_by-cons}
use Rattle.sharing.specs.Laws.{total}
use Rattle.sharing.proofs.Totals.{total-cons}
use Rattle.rows.specs.declared.figures.Cents.{Cents}
use Rattle.rows.specs.declared.party.Party.{Party}
use Rattle.records.specs.Ranges.{most_parties}
use Rattle.charges.specs.Amounts.{no_cents, column, cents}

module _ {X : Type 0} where
  -- the same numbers have the same total
  pub total_same : (f g : X → ℤ) (xs : List X) → All (λ x. f x ≡ g x) xs → total (map f xs) ≡ total (map g xs)
  total_same f g [] same = refl
  total_same f g (x ∷ xs) same =
      let P : X → Type 0 = λ x. f x ≡ g x in
      let first = All-head P x xs same in
      let later = total_same f g xs (All-tail P x xs same) in
      omega (arith, ints, total-cons (f x) (map f xs), total-cons (g x) (map g xs))

  -- the total of sums is the sum of totals
  pub total_of_sums : (f g : X → ℤ) (xs : List X) → total (map (λ x. f x +ℤ g x) xs) ≡ total (map f xs) +ℤ total (map g xs)
  total_of_sums f g [] = refl
  total_of_sums f g (x ∷ xs) =
      omega (arith, ints, total_of_sums f g xs, total-cons (f x +ℤ g x) (map (λ x. f x +ℤ g x) xs), total-cons (f x) (map f xs), total-cons (g x) (map g xs))

  module _ (p : X → Bool) where
    -- one element more, which passes or does not
    pub counted : (x : X) (xs : List X) → ((p x ≡ true) × (count_by p (x ∷ xs) ≡ 1 + count_by p xs)) ⊎ ((p x ≡ false) × (count_by p (x ∷ xs) ≡ count_by p xs))
    counted x xs = at (p x) refl
      where
        at : (b : Bool) → p x ≡ b → ((p x ≡ true) × (count_by p (x ∷ xs) ≡ 1 + count_by p xs)) ⊎ ((p x ≡ false) × (count_by p (x ∷ xs) ≡ count_by p xs))
        at true e = inl (e, sum_by-cons (λ x. cond (p x) 1 0) x xs ∙ ap (λ b. cond b 1 0 + count_by p xs) e)
        at false e = inr (e, sum_by-cons (λ x. cond (p x) 1 0) x xs ∙ ap (λ b. cond b 1 0 + count_by p xs) e ∙ omega arith)

    -- where none has a part the total is 0, and where just one has, it is that
    module _ (z : ℤ) where
      abbrev part : X → ℤ
      part x = cond (p x) z (pos 0)

      pub total_of_none : (xs : List X) → count_by p xs ≡ 0 → total (map part xs) ≡ pos 0
      total_of_none [] none = refl
      total_of_none (x ∷ xs) none =
          ⊎_elim (λ yes. let more = yes.1 in absurd (omega arith))
          (λ no. rw no.0 (total-cons (pos 0) (map part xs) ∙ omega (arith, ints, total_of_none xs (sym no.1 ∙ none))))
          (counted x xs)

      pub total_of_single : (xs : List X) → count_by p xs ≡ 1 → total (map part xs) ≡ z
      total_of_single [] one = absurd (omega arith)
      total_of_single (x ∷ xs) one =
          ⊎_elim
          (λ yes. rw yes.0 (total-cons z (map part xs) ∙ omega (arith, ints, total_of_none xs (let more = yes.1 in omega arith))))
          (λ no. rw no.0 (total-cons (pos 0) (map part xs) ∙ omega (arith, ints, total_of_single xs (sym no.1 ∙ one))))
          (counted x xs)

-- the empty places add nothing
total_of_rest : (n : ℕ) → total (cents (replicate n no_cents)) ≡ pos 0
total_of_rest zero = refl
total_of_rest (suc n) = total_of_rest n

filled : (amount : Party → ℤ) (ps : List Party) (n : ℕ) → total (cents (map (λ p. record { 0 = amount p }) ps ++ replicate n no_cents)) ≡ total (map amount ps)
filled amount [] n = total_of_rest n
filled amount (p ∷ ps) n =
    total-cons (amount p) (cents (map (λ p. record { 0 = amount p }) ps ++ replicate n no_cents))
    ∙ ap (λ z. amount p +ℤ z) (filled amount ps n) ∙ sym (total-cons (amount p) (map amount ps))

pub total_of_column : (amount : Party → ℤ) (parties : List Party) → total (cents (column amount parties)) ≡ total (map amount parties)
total_of_column amount parties = filled amount parties (most_parties - length parties)

pub total_at_front : (n k : ℕ) (column : List Cents) → drop n column ≡ replicate k no_cents → total (cents column) ≡ total (cents (take n column))
total_at_front zero k column empty = ap (λ l. total (cents l)) empty ∙ total_of_rest k
total_at_front (suc n) k [] empty = refl
total_at_front (suc n) k (c ∷ cs) empty =
    total-cons c.0 (cents cs) ∙ ap (λ z. c.0 +ℤ z) (total_at_front n k cs empty) ∙ sym (total-cons c.0 (cents (take n cs)))
