-- Totals of numbers, one for each of the first so many places. Assumes nothing.
use Rattle.std.proofs.Common.{◌≡◌, ◌≢◌, ℕ, ◌+◌, ◌<◌, ◌≤◌, zero, suc, List, [], ◌∷◌, ◌++◌, map, length, take, get_or, ℤ, pos, ◌+ℤ◌, ◌-ℤ◌, refl, ap, ◌∙◌, ⊎_elim, take-suc, append-nil, add-one, arith}
use Rattle.std.specs.List.{All, flat_map}
use Rattle.std.proofs.lemmas.Bool.{cases_lt}
use Rattle.std.proofs.lemmas.Int.{ints}
use Rattle.std.proofs.lemmas.Grind.{flat_map-append}
use Rattle.std.proofs.lemmas.List.{map-append}
use Rattle.std.proofs.lemmas.List.Elements.{All-nil, All-push}
use Rattle.sharing.specs.Laws.{total}
use Rattle.sharing.proofs.Totals.{total-cons}
use Rattle.rows.specs.declared.figures.Cents.{Cents}
use Rattle.charges.specs.Amounts.{no_cents, cents}
use Rattle.charges.specs.Faults.{first_indices}
use Rattle.statement.specs.Lines.{cents_at}

pub total-append : (xs ys : List ℤ) → total (xs ++ ys) ≡ total xs +ℤ total ys
total-append [] ys = omega (arith, ints)
total-append (x ∷ xs) ys = omega (arith, ints, total-cons x (xs ++ ys), total-cons x xs, total-append xs ys)

pub total_of_differences : {X : Type 0} (f g : X → ℤ) (xs : List X) → total (map (λ x. f x -ℤ g x) xs) ≡ total (map f xs) -ℤ total (map g xs)
total_of_differences f g [] = refl
total_of_differences f g (x ∷ xs) =
    omega (arith, ints, total_of_differences f g xs, total-cons (f x -ℤ g x) (map (λ x. f x -ℤ g x) xs), total-cons (f x) (map f xs), total-cons (g x) (map g xs))

pub all_places : (P : ℕ → Type 0) (n : ℕ) → ((i : ℕ) → i < n → P i) → All P (first_indices n)
all_places P zero each = All-nil P
all_places P (suc n) each = All-push P (first_indices n) n (all_places P n (λ i below. each i (omega arith))) (each n (omega arith))

-- what there is of the first so many places, and of one more
pub places_more : {X : Type 0} (f : ℕ → List X) (n : ℕ) → flat_map f (first_indices (n + 1)) ≡ flat_map f (first_indices n) ++ f n
places_more f n =
    ap (λ m. flat_map f (first_indices m)) (add-one n) ∙ flat_map-append f (first_indices n) (n ∷ []) ∙ ap (λ l. flat_map f (first_indices n) ++ l) (append-nil (f n))

abbrev pub over : (ℕ → ℤ) → ℕ → ℤ
over f n = total (map f (first_indices n))

pub over_next : (f : ℕ → ℤ) (n : ℕ) → over f (suc n) ≡ over f n +ℤ f n
over_next f n = ap total (map-append f (first_indices n) (n ∷ [])) ∙ total-append (map f (first_indices n)) (f n ∷ []) ∙ omega (arith, ints)

-- the same numbers have the same total
pub over_same : (f g : ℕ → ℤ) (n : ℕ) → ((i : ℕ) → i < n → f i ≡ g i) → over f n ≡ over g n
over_same f g zero same = refl
over_same f g (suc n) same =
    omega (arith, ints, over_next f n, over_next g n, over_same f g n (λ i below. same i (omega arith)), same n (omega arith))

pub over_none : (f : ℕ → ℤ) (n : ℕ) → ((i : ℕ) → i < n → f i ≡ pos 0) → over f n ≡ pos 0
over_none f zero none = refl
over_none f (suc n) none = omega (arith, ints, over_next f n, over_none f n (λ i below. none i (omega arith)), none n (omega arith))

-- where all others are 0, the total is the one
pub over_one : (f : ℕ → ℤ) (n k : ℕ) → k < n → ((i : ℕ) → i < n → i ≢ k → f i ≡ pos 0) → over f n ≡ f k
over_one f zero k inside others = absurd (omega arith)
over_one f (suc n) k inside others =
    ⊎_elim
    (λ before. omega (arith, ints, over_next f n, over_one f n k before (λ i below. others i (omega arith)), others n (omega arith) (λ e. absurd (omega arith))))
    (λ last.
    let at : n ≡ k = omega arith in
    let here : f n ≡ f k = ap f at in
    omega (arith, ints, over_next f n, over_none f n (λ i below. others i (omega arith) (λ e. absurd (omega arith)))))
    (cases_lt k n)

-- further places where nothing is add nothing
pub over_further : (f : ℕ → ℤ) (n more : ℕ) → ((i : ℕ) → i < more → f (n + i) ≡ pos 0) → over f (n + more) ≡ over f n
over_further f n zero none = let at : n + zero ≡ n = omega arith in ap (over f) at
over_further f n (suc more) none =
    let at : n + suc more ≡ suc (n + more) = omega arith in
    let last = none more (omega arith) in
    let earlier = over_further f n more (λ i below. none i (omega arith)) in
    ap (over f) at ∙ over_next f (n + more) ∙ omega (arith, ints)

-- what stands at the front of a column
pub front_total : (n : ℕ) (column : List Cents) → n ≤ length column → total (cents (take n column)) ≡ over (cents_at column) n
front_total zero column few = refl
front_total (suc n) column few =
    ap (λ l. total (cents l)) (take-suc column n no_cents few) ∙ ap total (map-append (λ c. c.0) (take n column) (get_or column n no_cents ∷ []))
    ∙ total-append (cents (take n column)) (cents_at column n ∷ []) ∙ omega (arith, ints, front_total n column (omega arith), over_next (cents_at column) n)
