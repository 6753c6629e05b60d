-- A rule that is worked from the last place backwards keeps the laws, as the rule does. Assumes nothing.
use Rattle.std.specs.Prelude.{◌≡◌, ℕ, ◌-◌, ◌<◌, List, [], ◌∷◌, ◌++◌, reverse, length, get_or, ℤ, pos, ◌+ℤ◌, sum, slice_index, slice_index_or, refl}
use Rattle.std.proofs.Common.{sym, ap, ◌∙◌, subst, arith}
use mathlib.Core.List.{reverse_aux-eq}
use Rattle.std.proofs.lemmas.List.{length-reverse, get_or-reverse, reverse-reverse}
use Rattle.std.proofs.lemmas.Int.{ints}
use Rattle.std.proofs.lemmas.List.Sums.{fold_push, sum_by_push, sum_by-cons}
use Rattle.sharing.specs.Limits.{Within, Shareable}
use Rattle.sharing.proofs.Totals.{total-cons}
use Rattle.sharing.specs.Laws.{total, Near, Apportioned, Lawful}

reverse-cons : {X : Type 0} (x : X) (xs : List X) → reverse (x ∷ xs) ≡ reverse xs ++ x ∷ []
reverse-cons x xs = reverse_aux-eq xs (x ∷ [])

pub sum-reverse : (ws : List ℕ) → sum (reverse ws) ≡ sum ws
sum-reverse [] = refl
sum-reverse (w ∷ ws) =
    ap sum (reverse-cons w ws) ∙ omega (arith, sum_by_push (λ x. x) (reverse ws) w, sum_by-cons (λ x. x) w ws, sum-reverse ws)

total-reverse : (zs : List ℤ) → total (reverse zs) ≡ total zs
total-reverse [] = refl
total-reverse (z ∷ zs) =
    ap total (reverse-cons z zs) ∙ fold_push ◌+ℤ◌ (pos 0) (reverse zs) z ∙ omega (arith, ints, total-reverse zs, total-cons z zs)

-- a place from the other end
slice_index_or-turned : {X : Type 0} (xs : List X) (i : ℕ) (d : X) → i < length xs → slice_index_or xs i d ≡ slice_index_or (reverse xs) (length xs - 1 - i) d
slice_index_or-turned xs i d h =
    ap (λ l. get_or l i d) (sym (reverse-reverse xs)) ∙ get_or-reverse (reverse xs) i d (omega (arith, length-reverse xs)) ∙ ap (λ n. get_or (reverse xs) (n - 1 - i) d) (length-reverse xs)

pub Shareable-reverse : (p : ℤ) (ws : List ℕ) → Shareable p ws → Shareable p (reverse ws)
Shareable-reverse p ws h none = h (sym (sum-reverse ws) ∙ none)

pub Within-reverse : (p : ℤ) (ws : List ℕ) → Within p ws → Within p (reverse ws)
Within-reverse p ws w =
    record {
      pool = w.pool;
      count = omega (arith, w.count, length-reverse ws);
      each = λ i h.
          let e = length-reverse ws in
          omega (arith, get_or-reverse ws i 0 (omega arith), w.each (length ws - 1 - i) (omega arith));
      total = omega (arith, w.total, sum-reverse ws);
    }

module _ (p : ℤ) (ws : List ℕ) (zs : List ℤ) (laws : Apportioned p (reverse ws) zs) where
  long : length zs ≡ length ws
  long = laws.one_each ∙ length-reverse ws

  same : (i : ℕ) → i < length ws → slice_index_or (reverse zs) i (pos 0) ≡ slice_index_or zs (length ws - 1 - i) (pos 0)
  same i h = get_or-reverse zs i (pos 0) (omega (arith, long)) ∙ ap (λ n. get_or zs (n - 1 - i) (pos 0)) long

  turn_near : (i : ℕ) → 0 < sum ws → i < length ws → Near p (sum ws) (slice_index ws i) (slice_index_or (reverse zs) i (pos 0))
  turn_near i some h =
      let j : ℕ = length ws - 1 - i in
      let at : Near p (sum (reverse ws)) (slice_index (reverse ws) j) (slice_index_or zs j (pos 0)) = laws.near j (omega (arith, sum-reverse ws)) (omega (arith, length-reverse ws)) in
      let by_sum : Near p (sum ws) (slice_index (reverse ws) j) (slice_index_or zs j (pos 0)) = subst (λ n. Near p n (slice_index (reverse ws) j) (slice_index_or zs j (pos 0))) (sum-reverse ws) at in
      let by_weight : Near p (sum ws) (slice_index ws i) (slice_index_or zs j (pos 0)) = subst (λ n. Near p (sum ws) n (slice_index_or zs j (pos 0))) (sym (slice_index_or-turned ws i 0 h)) by_sum in
      subst (λ z. Near p (sum ws) (slice_index ws i) z) (sym (same i h)) by_weight

  turned : Apportioned p ws (reverse zs)
  turned =
      record {
        one_each = length-reverse zs ∙ long;
        in_full = λ shareable. total-reverse zs ∙ laws.in_full (Shareable-reverse p ws shareable);
        near = turn_near;
        no_weight = λ i none h. same i h ∙ laws.no_weight (length ws - 1 - i) (sum-reverse ws ∙ none) (omega (arith, length-reverse ws));
      }

pub turned_lawful : (shares : ℤ → List ℕ → List ℤ) → Lawful shares → Lawful (λ p ws. reverse (shares p (reverse ws)))
turned_lawful shares lawful p ws within = turned p ws (shares p (reverse ws)) (lawful p (reverse ws) (Within-reverse p ws within))
