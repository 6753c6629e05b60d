-- What lines come to that pass a test. Assumes nothing.
use Rattle.std.proofs.Common.{◌≡◌, Bool, true, false, not, cond, List, [], ◌∷◌, ◌++◌, map, filter, flat_map, ℤ, pos, ◌+ℤ◌, refl, sym, ap, ◌∙◌, arith, int_eq}
use Rattle.std.specs.List.{All}
use Rattle.std.proofs.lemmas.Bool.Decides.{Decides-int_eq}
use Rattle.std.proofs.lemmas.Int.{ints}
use Rattle.std.proofs.lemmas.List.Elements.{All-head, All-tail}
use Rattle.sharing.specs.Laws.{total}
use Rattle.sharing.proofs.Totals.{total-cons}
use Rattle.statement.specs.declared.line.Line.{Line}
use Rattle.statement.specs.Lines.{total_of, is_billed}

abbrev pub part : (Line → Bool) → Line → ℤ
part test l = cond (test l) l.cents.0 (pos 0)

module _ (test : Line → Bool) where
  kept : (b : Bool) (l : Line) (ls : List Line) → total (map (λ l. l.cents.0) (cond b (l ∷ ls) ls)) ≡ cond b l.cents.0 (pos 0) +ℤ total (map (λ l. l.cents.0) ls)
  kept true l ls = total-cons l.cents.0 (map (λ l. l.cents.0) ls)
  kept false l ls = omega (arith, ints)

  pub total_of-nil : total_of test [] ≡ pos 0
  unfolding total_of
  total_of-nil = refl

  pub total_of-cons : (l : Line) (ls : List Line) → total_of test (l ∷ ls) ≡ part test l +ℤ total_of test ls
  unfolding total_of
  total_of-cons l ls = kept (test l) l (filter test ls)

  pub total_of_one : (l : Line) → total_of test (l ∷ []) ≡ part test l
  total_of_one l = omega (arith, ints, total_of-cons l [], total_of-nil)

  pub total_of-append : (xs ys : List Line) → total_of test (xs ++ ys) ≡ total_of test xs +ℤ total_of test ys
  total_of-append [] ys = omega (arith, ints, total_of-nil)
  total_of-append (x ∷ xs) ys = omega (arith, ints, total_of-cons x (xs ++ ys), total_of-cons x xs, total_of-append xs ys)

  pub total_of-flat_map : {X : Type 0} (g : X → List Line) (xs : List X) → total_of test (flat_map g xs) ≡ total (map (λ x. total_of test (g x)) xs)
  total_of-flat_map g [] = total_of-nil
  total_of-flat_map g (x ∷ xs) =
      omega (arith, ints, total_of-append (g x) (flat_map g xs), total_of-flat_map g xs, total-cons (total_of test (g x)) (map (λ x. total_of test (g x)) xs))

  pub total_of-map : {X : Type 0} (g : X → Line) (xs : List X) → total_of test (map g xs) ≡ total (map (λ x. part test (g x)) xs)
  total_of-map g [] = total_of-nil
  total_of-map g (x ∷ xs) =
      omega (arith, ints, total_of-cons (g x) (map g xs), total_of-map g xs, total-cons (part test (g x)) (map (λ x. part test (g x)) xs))

  -- where none passes the total is 0
  pub total_of_none : (ls : List Line) → All (λ l. test l ≡ false) ls → total_of test ls ≡ pos 0
  total_of_none [] none = total_of-nil
  total_of_none (l ∷ ls) none =
      let P : Line → Type 0 = λ l. test l ≡ false in
      let fails : part test l ≡ pos 0 = ap (λ b. cond b l.cents.0 (pos 0)) (All-head P l ls none) in
      omega (arith, ints, total_of-cons l ls, total_of_none ls (All-tail P l ls none))

  nothing : (b : Bool) (z : ℤ) → z ≡ pos 0 → cond b z (pos 0) ≡ pos 0
  nothing true z e = e
  nothing false z e = refl

  if_billed : (b : Bool) (l : Line) (ls : List Line) → int_eq l.cents.0 (pos 0) ≡ b → total_of test (cond (not b) (l ∷ ls) ls) ≡ part test l +ℤ total_of test ls
  if_billed true l ls e = omega (arith, ints, nothing (test l) l.cents.0 ((Decides-int_eq l.cents.0 (pos 0)).0 e))
  if_billed false l ls e = total_of-cons l ls

  -- lines of 0 cents add nothing
  pub total_of_billed : (ls : List Line) → total_of test (filter is_billed ls) ≡ total_of test ls
  total_of_billed [] = refl
  total_of_billed (l ∷ ls) =
      if_billed (int_eq l.cents.0 (pos 0)) l (filter is_billed ls) refl ∙ ap (λ z. part test l +ℤ z) (total_of_billed ls) ∙ sym (total_of-cons l ls)

-- tests that agree give the same total
pub total_of_same : (p q : Line → Bool) (ls : List Line) → All (λ l. p l ≡ q l) ls → total_of p ls ≡ total_of q ls
total_of_same p q [] same = total_of-nil p ∙ sym (total_of-nil q)
total_of_same p q (l ∷ ls) same =
    let P : Line → Type 0 = λ l. p l ≡ q l in
    let head : part p l ≡ part q l = ap (λ b. cond b l.cents.0 (pos 0)) (All-head P l ls same) in
    omega (arith, ints, total_of-cons p l ls, total_of-cons q l ls, total_of_same p q ls (All-tail P l ls same))
