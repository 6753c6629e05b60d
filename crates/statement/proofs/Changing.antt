-- What a run changes: what each of its lines is, and what they come to. Assumes nothing.
use Rattle.std.proofs.Common.{◌≡◌, ◌≢◌, ℕ, ◌<◌, Bool, true, false, cond, List, [], ◌∷◌, length, get_or, flat_map, ℤ, pos, ◌-ℤ◌, slice_index, refl, ap, ◌∙◌, arith}
use Rattle.std.specs.List.{All}
use Rattle.std.proofs.lemmas.Int.{ints}
use Rattle.std.proofs.lemmas.List.Elements.{All-nil, All-append, All-push, All-head, All-tail, All-map}
use Rattle.charges.specs.declared.amounts.IntervalAmounts.{IntervalAmounts}
use Rattle.charges.specs.declared.code.ChargeCode.{ChargeCode}
use Rattle.charges.specs.declared.code.ChargeCode.TheVariants.{Cc6470, Cc6474, Cc6475, Cc6476, Cc6477}
use Rattle.charges.specs.Codes.{all_codes, column_under}
use Rattle.charges.specs.Faults.{first_indices}
use Rattle.charges.proofs.Totals.{total_same}
use Rattle.statement.specs.declared.line.Line.{Line}
use Rattle.statement.specs.Lines.{total_of, cents_at, line, same_code, party_changes, parties_changes, interval_changes, balance_change, changes}
use Rattle.statement.proofs.Known.{party_total, interval_total}
use Rattle.statement.proofs.Places.{total_of_differences, all_places, over, over_same, over_none, over_one}
use Rattle.statement.proofs.LineTotals.{part, total_of_one, total_of-append, total_of-flat_map, total_of-map, total_of_none}

-- each line is one of the parties' or account 0's
module _ (P : Line → Type 0) where
  pub all_of_each : {X : Type 0} (g : X → List Line) (xs : List X) → All (λ x. All P (g x)) xs → All P (flat_map g xs)
  all_of_each g [] each = All-nil P
  all_of_each {X} g (x ∷ xs) each =
      let Q : X → Type 0 = λ x. All P (g x) in
      All-append P (g x) (flat_map g xs) (All-head Q x xs each) (all_of_each g xs (All-tail Q x xs each))

  module _ (run place : ℕ) (new earlier : IntervalAmounts) where
    pub party_all : (i id : ℕ) → ((code : ChargeCode) (z : ℤ) → P (line run place id code z)) → All P (party_changes run place new earlier i id)
    unfolding party_changes
    party_all i id each =
        let g : ChargeCode → Line = λ code. line run place id code (cents_at (column_under code new) i -ℤ cents_at (column_under code earlier) i) in
        All-map P g all_codes (λ k d lt. let code = get_or all_codes k d in each code (cents_at (column_under code new) i -ℤ cents_at (column_under code earlier) i))

    pub interval_all : (ids : List ℕ) → ((i : ℕ) (code : ChargeCode) (z : ℤ) → i < length ids → P (line run place (slice_index ids i) code z))
        → ((z : ℤ) → P (line run place 0 Cc6476 z)) → All P (interval_changes run place new earlier ids)
    unfolding interval_changes parties_changes
    interval_all ids parties balance =
        let g : ℕ → List Line = λ i. party_changes run place new earlier i (slice_index ids i) in
        let each = all_places (λ i. All P (g i)) (length ids) (λ i inside. party_all i (slice_index ids i) (λ code z. parties i code z inside)) in
        All-push P (flat_map g (first_indices (length ids))) (balance_change run place new earlier) (all_of_each g (first_indices (length ids)) each)
        (balance (new.balance.0 -ℤ earlier.balance.0))

  pub changes_all : (run : ℕ) (new earlier : ℕ → IntervalAmounts) (ids : List ℕ) (n : ℕ)
      → ((place i : ℕ) (code : ChargeCode) (z : ℤ) → place < n → i < length ids → P (line run place (slice_index ids i) code z))
      → ((place : ℕ) (z : ℤ) → place < n → P (line run place 0 Cc6476 z)) → All P (changes run new earlier ids n)
  unfolding changes
  changes_all run new earlier ids n parties balance =
      let g : ℕ → List Line = λ place. interval_changes run place (new place) (earlier place) ids in
      let each =
      all_places (λ place. All P (g place)) n
      (λ place inside. interval_all run place (new place) (earlier place) ids (λ i code z lt. parties place i code z inside lt) (λ z. balance place z inside)) in
      all_of_each g (first_indices n) each

if_of_difference : (b : Bool) (x y : ℤ) → cond b (x -ℤ y) (pos 0) ≡ cond b x (pos 0) -ℤ cond b y (pos 0)
if_of_difference true x y = refl
if_of_difference false x y = refl

-- account 0's line, by whether it passes
balance_change_total : (test : Line → Bool) (run place : ℕ) (new earlier : IntervalAmounts) (b : Bool) → ((z : ℤ) → test (line run place 0 Cc6476 z) ≡ b)
    → total_of test (balance_change run place new earlier ∷ []) ≡ cond b (new.balance.0 -ℤ earlier.balance.0) (pos 0)
balance_change_total test run place new earlier b passes =
    let z = new.balance.0 -ℤ earlier.balance.0 in
    total_of_one test (balance_change run place new earlier) ∙ ap (λ b. cond b z (pos 0)) (passes z)

-- by a test that is one of codes for the accounts in question
module _ (test : Line → Bool) (t : ChargeCode → Bool) (run place : ℕ) (new earlier : IntervalAmounts) where
  pub party_change : (i id : ℕ) → ((code : ChargeCode) (z : ℤ) → test (line run place id code z) ≡ t code)
      → total_of test (party_changes run place new earlier i id) ≡ party_total t new i -ℤ party_total t earlier i
  unfolding party_changes party_total
  party_change i id same =
      let x : ChargeCode → ℤ = λ code. cents_at (column_under code new) i in
      let y : ChargeCode → ℤ = λ code. cents_at (column_under code earlier) i in
      let g : ChargeCode → Line = λ code. line run place id code (x code -ℤ y code) in
      let p : ChargeCode → ℤ = λ code. cond (t code) (x code) (pos 0) in
      let q : ChargeCode → ℤ = λ code. cond (t code) (y code) (pos 0) in
      let each : (code : ChargeCode) → part test (g code) ≡ p code -ℤ q code =
      λ code. ap (λ b. cond b (x code -ℤ y code) (pos 0)) (same code (x code -ℤ y code)) ∙ if_of_difference (t code) (x code) (y code) in
      total_of-map test g all_codes
      ∙ total_same (λ code. part test (g code)) (λ code. p code -ℤ q code) all_codes (λ k d lt. each (get_or all_codes k d))
      ∙ total_of_differences p q all_codes

  pub whole_change : (ids : List ℕ) → ((account : ℕ) (code : ChargeCode) (z : ℤ) → test (line run place account code z) ≡ t code)
      → total_of test (interval_changes run place new earlier ids) ≡ interval_total t (length ids) new -ℤ interval_total t (length ids) earlier
  unfolding interval_changes parties_changes interval_total
  whole_change ids same =
      let n = length ids in
      let g : ℕ → List Line = λ i. party_changes run place new earlier i (slice_index ids i) in
      let parties : total_of test (flat_map g (first_indices n)) ≡ over (party_total t new) n -ℤ over (party_total t earlier) n =
      total_of-flat_map test g (first_indices n)
      ∙ over_same (λ i. total_of test (g i)) (λ i. party_total t new i -ℤ party_total t earlier i) n (λ i inside. party_change i (slice_index ids i) (same (slice_index ids i)))
      ∙ total_of_differences (party_total t new) (party_total t earlier) (first_indices n) in
      let b = balance_change run place new earlier in
      let balance : total_of test (b ∷ []) ≡ cond (t Cc6476) new.balance.0 (pos 0) -ℤ cond (t Cc6476) earlier.balance.0 (pos 0) =
      balance_change_total test run place new earlier (t Cc6476) (same 0 Cc6476) ∙ if_of_difference (t Cc6476) new.balance.0 earlier.balance.0 in
      omega (arith, ints, total_of-append test (flat_map g (first_indices n)) (b ∷ []), parties, balance)

-- by one that only lines of the party at a place pass
module _ (test : Line → Bool) (run place : ℕ) (new earlier : IntervalAmounts) (ids : List ℕ) where
  pub only_party : (i : ℕ) → i < length ids → ((j : ℕ) (code : ChargeCode) (z : ℤ) → j < length ids → j ≢ i → test (line run place (slice_index ids j) code z) ≡ false)
      → ((z : ℤ) → test (line run place 0 Cc6476 z) ≡ false)
      → total_of test (interval_changes run place new earlier ids) ≡ total_of test (party_changes run place new earlier i (slice_index ids i))
  unfolding interval_changes parties_changes
  only_party i inside others balance =
      let n = length ids in
      let g : ℕ → List Line = λ j. party_changes run place new earlier j (slice_index ids j) in
      let b = balance_change run place new earlier in
      let none : total_of test (b ∷ []) ≡ pos 0 = balance_change_total test run place new earlier false balance in
      let one : over (λ j. total_of test (g j)) n ≡ total_of test (g i) =
      over_one (λ j. total_of test (g j)) n i inside
      (λ j lt apart. total_of_none test (g j) (party_all (λ l. test l ≡ false) run place new earlier j (slice_index ids j) (λ code z. others j code z lt apart))) in
      omega (arith, ints, total_of-append test (flat_map g (first_indices n)) (b ∷ []), total_of-flat_map test g (first_indices n), one, none)

  -- or that only account 0's line passes
  pub only_balance : ((j : ℕ) (code : ChargeCode) (z : ℤ) → j < length ids → test (line run place (slice_index ids j) code z) ≡ false)
      → ((z : ℤ) → test (line run place 0 Cc6476 z) ≡ true) → total_of test (interval_changes run place new earlier ids) ≡ new.balance.0 -ℤ earlier.balance.0
  unfolding interval_changes parties_changes
  only_balance others balance =
      let n = length ids in
      let g : ℕ → List Line = λ j. party_changes run place new earlier j (slice_index ids j) in
      let b = balance_change run place new earlier in
      let one : total_of test (b ∷ []) ≡ new.balance.0 -ℤ earlier.balance.0 = balance_change_total test run place new earlier true balance in
      let none : over (λ j. total_of test (g j)) n ≡ pos 0 =
      over_none (λ j. total_of test (g j)) n
      (λ j lt. total_of_none test (g j) (party_all (λ l. test l ≡ false) run place new earlier j (slice_index ids j) (λ code z. others j code z lt))) in
      omega (arith, ints, total_of-append test (flat_map g (first_indices n)) (b ∷ []), total_of-flat_map test g (first_indices n), one, none)

-- by one that only lines of one interval pass
pub only_interval : (test : Line → Bool) (run : ℕ) (new earlier : ℕ → IntervalAmounts) (ids : List ℕ) (n place : ℕ) → place < n
    → ((other account : ℕ) (code : ChargeCode) (z : ℤ) → other ≢ place → test (line run other account code z) ≡ false)
    → total_of test (changes run new earlier ids n) ≡ total_of test (interval_changes run place (new place) (earlier place) ids)
unfolding changes
only_interval test run new earlier ids n place inside others =
    let g : ℕ → List Line = λ i. interval_changes run i (new i) (earlier i) ids in
    total_of-flat_map test g (first_indices n)
    ∙ over_one (λ i. total_of test (g i)) n place inside
    (λ i lt apart. total_of_none test (g i)
    (interval_all (λ l. test l ≡ false) run i (new i) (earlier i) ids (λ j code z in'. others i (slice_index ids j) code z apart) (λ z. others i 0 Cc6476 z apart)))

-- a party's total under one code
pub total_under : (code : ChargeCode) (x : IntervalAmounts) (i : ℕ) → party_total (λ c. same_code c code) x i ≡ cents_at (column_under code x) i
unfolding party_total
total_under Cc6470 x i = omega (arith, ints)
total_under Cc6474 x i = omega (arith, ints)
total_under Cc6475 x i = omega (arith, ints)
total_under Cc6476 x i = omega (arith, ints)
total_under Cc6477 x i = omega (arith, ints)
