-- The sizes of largest remainder are exact: just as many places get one unit more as units are missing, and each of them
-- has a remainder. Assumes nothing.
use Rattle.std.specs.Prelude.{◌≡◌, ℕ, zero, suc, ◌+◌, ◌*◌, ◌/◌, ◌%◌, ◌<◌, ◌≤◌, Bool, true, false, cond, ltb, List, [], ◌∷◌, length, take, sum_by, sum, ◌==◌, ◌≢◌, ◌⊎◌, nat_lt, slice_index, slice_index_or}
use Rattle.std.proofs.Common.{sym, ap, ◌∙◌, le_refl, le_trans, mul-zero, mul-one, mul-add, mul_comm, mod-lt, add-one, arith}
use Rattle.std.proofs.Math.Logic.{⊎_elim}
use Rattle.std.proofs.Math.Nat.{le_of_mul-le-mul_left, div-add-mod}
use Rattle.std.proofs.lemmas.List.{take_all, length-map, get_or-map}
use Rattle.std.proofs.lemmas.List.Sums.{sum_by-cons, sum_by_more, sum-map}
use Rattle.std.proofs.lemmas.Bool.{cases_lt, cases_Bool, lt-ltb, ltb-true}
use Rattle.std.proofs.lemmas.Bool.Decides.{nat_tests}
use Rattle.sharing.specs.Laws.{Lawful}
use Rattle.sharing.specs.LargestRemainder.{bit, tally, remainders, shortfall, comes_before, rank, largest_remainder_size, largest_remainder}
use Rattle.sharing.specs.Sums.{up_to, up_to_is, sum_more, sum_all, part_split}
use Rattle.sharing.specs.BySize.{AreExact, apportioned}
use Rattle.sharing.specs.Tallies.{tally_more, tally_le, tally_mono, bit-true, bit-false, ranked_below, ranked_order}

-- a place i of remainder a before a place j of remainder b
first : ℕ → ℕ → ℕ → ℕ → Bool
first a i b j = cond (a == b) (nat_lt i j) (nat_lt b a)

first_itself : (a i : ℕ) → first a i a i ≡ false
unfolding first
first_itself a i = grind (arith, nat_tests)

first_along : (a i b j c k : ℕ) → first a i b j ≡ true → first b j c k ≡ true → first a i c k ≡ true
unfolding first
first_along a i b j c k h l = grind (arith, nat_tests)

first_either : (a i b j : ℕ) → (i ≢ j) → first a i b j ≡ false → first b j a i ≡ true
unfolding first
first_either a i b j ne h = grind (arith, nat_tests)

first_means : (a i b j : ℕ) → first a i b j ≡ true → (b < a) ⊎ ((a ≡ b) × (i < j))
unfolding first
first_means a i b j h = grind (arith, nat_tests)

first_larger : (a i b j : ℕ) → b < a → first a i b j ≡ true
unfolding first
first_larger a i b j h = grind (arith, nat_tests)

-- each exact part is what is rounded down and a remainder
split_sum : (r whole : ℕ) (ws : List ℕ) → whole * sum_by (λ w. r * w / whole) ws + sum_by (λ w. r * w % whole) ws ≡ r * sum ws
split_sum r whole [] = omega arith
split_sum r whole (w ∷ ws) =
    let down : whole * sum_by (λ v. r * v / whole) (w ∷ ws) ≡ whole * (r * w / whole) + whole * sum_by (λ v. r * v / whole) ws = ap (λ x. whole * x) (sum_by-cons (λ v. r * v / whole) w ws) ∙ mul-add whole (r * w / whole) (sum_by (λ v. r * v / whole) ws) in
    let left = sum_by-cons (λ v. r * v % whole) w ws in
    let all : r * sum (w ∷ ws) ≡ r * w + r * sum ws = ap (λ x. r * x) (sum_by-cons (λ x. x) w ws) ∙ mul-add r w (sum ws) in
    let here = div-add-mod (r * w) whole in
    omega (arith, split_sum r whole ws)

module _ (whole : ℕ) (rs : List ℕ) (each : (i : ℕ) → i < length rs → slice_index rs i < whole) where
  covers : (x : ℕ) → x < whole → x ≤ whole * bit (nat_lt 0 x)
  covers x h =
      ⊎_elim (λ some. let e : whole * bit (nat_lt 0 x) ≡ whole = ap (λ b. whole * b) (bit-true (nat_lt 0 x) (lt-ltb 0 x some)) ∙ mul-one whole in omega arith)
      (λ none. omega arith) (cases_lt 0 x)

  -- remainders below `whole` come to at most `whole` for each place that has one
  remainders_le : (k : ℕ) → k ≤ length rs → sum (take k rs) ≤ whole * tally (λ j. ltb 0 (slice_index rs j)) k
  remainders_le zero h = omega arith
  remainders_le (suc k) h =
      let p : ℕ → Bool = λ j. ltb 0 (slice_index rs j) in
      let more : sum (take (suc k) rs) ≡ sum (take k rs) + slice_index_or rs k 0 = ap (λ n. sum (take n rs)) (sym (add-one k)) ∙ sum_more rs k (omega arith) in
      let parts : whole * tally p (suc k) ≡ whole * tally p k + whole * bit (p k) = mul-add whole (tally p k) (bit (p k)) in
      omega (arith, remainders_le k (omega arith), covers (slice_index rs k) (each k (omega arith)))

module _ (r : ℕ) (ws : List ℕ) (part : r < sum ws) where
  abbrev whole : ℕ
  whole = sum ws

  abbrev rs : List ℕ
  rs = remainders r ws

  some : 0 < whole
  some = omega arith

  abbrev down : ℕ
  down = sum_by (λ w. r * w / whole) ws

  pub length-rs : length rs ≡ length ws
  length-rs = length-map ws (λ w. r * w % whole)

  pub slice_index-rs : (i : ℕ) → i < length ws → slice_index rs i ≡ r * slice_index ws i % whole
  slice_index-rs i h = get_or-map (λ w. r * w % whole) ws i 0 0 h

  below : (i : ℕ) → i < length rs → slice_index rs i < whole
  below i h = let e = slice_index-rs i (omega (arith, length-rs)) in let lt = mod-lt (r * slice_index ws i) some in omega arith

  whole_parts : whole * down + sum rs ≡ whole * r
  whole_parts = ap (λ x. whole * down + x) (sum-map (λ w. r * w % whole) ws) ∙ split_sum r whole ws ∙ mul_comm r whole

  pub down_le : sum_by (λ w. r * w / sum ws) ws ≤ r
  down_le = le_of_mul-le-mul_left (let h = whole_parts in omega arith) some

  left_is : sum rs ≡ whole * shortfall r ws
  left_is =
      let le = down_le in
      let e : whole * r ≡ whole * down + whole * shortfall r ws = ap (λ x. whole * x) (omega arith) ∙ mul-add whole down (shortfall r ws) in
      omega (arith, whole_parts)

  -- at least as many places have a remainder as units are missing
  missing-tally : shortfall r ws ≤ tally (λ j. ltb 0 (slice_index rs j)) (length rs)
  missing-tally =
      let e : sum (take (length rs) rs) ≡ sum rs = sum_all rs (length rs) (le_refl (length rs)) in
      let le = remainders_le whole rs below (length rs) (le_refl (length rs)) in
      le_of_mul-le-mul_left (omega (arith, left_is)) some

  missing_le : shortfall r ws ≤ length rs
  missing_le = le_trans missing-tally (tally_le (λ j. ltb 0 (slice_index rs j)) (length rs))

  -- only a place that has a remainder gets one more
  positive : (i : ℕ) → rank rs i < shortfall r ws → 0 < slice_index rs i
  unfolding first
  positive i h =
      ⊎_elim (λ p. p)
      (λ z.
      let le = tally_mono (λ j. ltb 0 (slice_index rs j)) (λ j. comes_before rs j i) (length rs) (λ j l t. first_larger (slice_index rs j) j (slice_index rs i) i (omega (arith, ltb-true 0 (slice_index rs j) t))) in
      omega (arith, missing-tally))
      (cases_lt 0 (slice_index rs i))

  abbrev gets_more : ℕ → Bool
  gets_more i = nat_lt (rank rs i) (shortfall r ws)

  counted : tally gets_more (length rs) ≡ shortfall r ws
  unfolding first
  counted =
      ranked_below (comes_before rs) (λ i. first_itself (slice_index rs i) i)
      (λ i j k. first_along (slice_index rs i) i (slice_index rs j) j (slice_index rs k) k)
      (λ i j. first_either (slice_index rs i) i (slice_index rs j) j) (length rs) (shortfall r ws) missing_le

  -- who gets one more comes before who gets none
  pub more_first : (i j : ℕ) → j < length ws → rank rs i < shortfall r ws → shortfall r ws ≤ rank rs j
      → (slice_index rs j < slice_index rs i) ⊎ ((slice_index rs i ≡ slice_index rs j) × (i < j))
  unfolding first
  more_first i j h few many =
      first_means (slice_index rs i) i (slice_index rs j) j
      (ranked_order (comes_before rs) (λ i. first_itself (slice_index rs i) i)
      (λ i j k. first_along (slice_index rs i) i (slice_index rs j) j (slice_index rs k) k)
      (λ i j. first_either (slice_index rs i) i (slice_index rs j) j) (length rs) i j (omega (arith, length-rs)) (omega arith))

  module _ (q : ℕ) where
    -- the sizes of the first k
    abbrev reached : ℕ → ℕ
    reached k = q * sum (take k ws) + sum_by (λ w. r * w / whole) (take k ws) + tally gets_more k

    reached_none : reached 0 ≡ 0
    reached_none = omega arith

    reached_more : (k : ℕ) → k < length ws → reached (k + 1) ≡ reached k + largest_remainder_size q r ws k
    reached_more k h =
        let m : q * sum (take (k + 1) ws) ≡ q * sum (take k ws) + q * slice_index_or ws k 0 = ap (λ x. q * x) (sum_more ws k h) ∙ mul-add q (sum (take k ws)) (slice_index ws k) in
        let d = sum_by_more (λ w. r * w / whole) ws k 0 h in
        let t = tally_more gets_more k in
        omega arith

    reached_all : reached (length ws) ≡ q * whole + r
    reached_all =
        let s : q * sum (take (length ws) ws) ≡ q * whole = ap (λ x. q * x) (sum_all ws (length ws) (le_refl (length ws))) in
        let d : sum_by (λ w. r * w / whole) (take (length ws) ws) ≡ down = ap (sum_by (λ w. r * w / whole)) (take_all (length ws) ws (le_refl (length ws))) in
        let t : tally gets_more (length ws) ≡ shortfall r ws = ap (tally gets_more) (sym length-rs) ∙ counted in
        omega (arith, down_le)

    sizes_all : up_to (largest_remainder_size q r ws) (length ws) ≡ q * sum ws + r
    sizes_all = up_to_is (largest_remainder_size q r ws) reached (length ws) reached_none reached_more ∙ reached_all

    sizes_near : (i : ℕ) → i < length ws
        → (sum ws * largest_remainder_size q r ws i < (q * sum ws + r) * slice_index ws i + sum ws) × ((q * sum ws + r) * slice_index ws i < sum ws * largest_remainder_size q r ws i + sum ws)
    sizes_near i l =
        let w : ℕ = slice_index_or ws i 0 in
        let t : Bool = gets_more i in
        let exact = part_split q r whole w in
        let at = div-add-mod (r * w) whole in
        let lt = mod-lt (r * w) some in
        let is = slice_index-rs i l in
        let parts : whole * (q * w + r * w / whole + bit t) ≡ whole * (q * w) + whole * (r * w / whole) + whole * bit t = mul-add whole (q * w + r * w / whole) (bit t) ∙ ap (λ x. x + whole * bit t) (mul-add whole (q * w) (r * w / whole)) in
        ⊎_elim
        (λ e.
        let one : whole * bit t ≡ whole = ap (λ b. whole * b) (bit-true t e) ∙ mul-one whole in
        let p = positive i (ltb-true (rank rs i) (shortfall r ws) e) in
        (omega arith, omega arith))
        (λ e. let none : whole * bit t ≡ 0 = ap (λ b. whole * b) (bit-false t e) ∙ mul-zero whole in (omega arith, omega arith))
        (cases_Bool t)

pub largest_remainder_exact : AreExact largest_remainder_size
largest_remainder_exact = record { all = λ q r ws part. sizes_all r ws part q; near = λ q r ws i part h. sizes_near r ws part q i h }

pub largest_remainder_lawful : Lawful largest_remainder
unfolding largest_remainder
largest_remainder_lawful p ws within = apportioned largest_remainder_size p ws largest_remainder_exact
