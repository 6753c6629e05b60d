-- The lines that a run adds are as lines must be, and stand in turn. Assumes nothing.
use Rattle.std.proofs.Common.{◌≡◌, ◌≢◌, ℕ, ◌+◌, ◌<◌, ◌≤◌, zero, suc, true, not, List, [], ◌∷◌, ◌++◌, map, length, get_or, flat_map, ℤ, pos, ◌-ℤ◌, int_eq, slice_index, refl, sym, ap, subst, ◌∙◌, le_refl, true≢false, arith, add-one}
use Rattle.std.specs.List.{All, AllPairs}
use Rattle.std.specs.List.Sorted.{IsStrictlyIncreasing}
use Rattle.std.proofs.lemmas.List.{get_or-map}
use Rattle.std.proofs.lemmas.List.Elements.{All-head, All-tail, All-nil, All-cons, All-append, All-map, All-weaker, All-filter, filter_passes}
use Rattle.std.proofs.lemmas.List.Kept.{AllPairs-cons, AllPairs-filter, AllPairs-from_increasing}
use Rattle.deemed.specs.Ranges.{hour_length}
use Rattle.charges.specs.declared.amounts.IntervalAmounts.{IntervalAmounts}
use Rattle.charges.specs.declared.amounts.HourAmounts.{HourAmounts}
use Rattle.charges.specs.declared.code.ChargeCode.{ChargeCode}
use Rattle.charges.specs.declared.code.ChargeCode.TheVariants.{Cc6476}
use Rattle.charges.specs.Codes.{all_codes, charge_code_number, column_under}
use Rattle.charges.specs.Faults.{first_indices}
use Rattle.charges.specs.Charged.{at_index}
use Rattle.statement.specs.declared.line.Line.{Line}
use Rattle.statement.specs.Lines.{line, cents_at, is_billed, come_to, party_changes, parties_changes, balance_change, interval_changes, changes, new_lines}
use Rattle.statement.specs.Promises.{IsLine, InTurn}
use Rattle.statement.proofs.Known.{Apart}
use Rattle.statement.proofs.Places.{all_places, places_more}
use Rattle.statement.proofs.NewLines.{run_is}
use Rattle.statement.proofs.Changing.{all_of_each, party_all, interval_all, changes_all}

-- pairs of a list that is put together
module _ {X : Type 0} (R : X → X → Type 0) where
  pub pairs-append : (xs ys : List X) → AllPairs R xs → AllPairs R ys → All (λ x. All (R x) ys) xs → AllPairs R (xs ++ ys)
  pairs-append [] ys own others across = others
  pairs-append (x ∷ xs) ys own others across =
      let first : All (R x) xs = λ k d inside. own 0 (suc k) d (omega arith) (omega arith) in
      let rest : AllPairs R xs = λ i j d less inside. own (suc i) (suc j) d (omega arith) (omega arith) in
      AllPairs-cons R x (xs ++ ys) (All-append (R x) xs ys first (All-head (λ x. All (R x) ys) x xs across))
      (pairs-append xs ys rest others (All-tail (λ x. All (R x) ys) x xs across))

  pairs-map : {Y : Type 0} (f : Y → X) (ys : List Y) → AllPairs (λ a b. R (f a) (f b)) ys → AllPairs R (map f ys)
  pairs-map f [] own = λ i j d less inside. absurd (omega arith)
  pairs-map f (y ∷ ys) own =
      AllPairs-cons R (f y) (map f ys) (All-map (R (f y)) f ys (λ k d inside. own 0 (suc k) d (omega arith) (omega arith)))
      (pairs-map f ys (λ i j d less inside. own (suc i) (suc j) d (omega arith) (omega arith)))

-- of the lists of the first so many places
pairs_of_places : (R : Line → Line → Type 0) (g : ℕ → List Line) (n : ℕ) → ((i : ℕ) → i < n → AllPairs R (g i))
    → ((i j : ℕ) → i < j → j < n → All (λ l. All (R l) (g j)) (g i)) → AllPairs R (flat_map g (first_indices n))
pairs_of_places R g zero own across = λ i j d less inside. absurd (omega arith)
pairs_of_places R g (suc n) own across =
    let earlier = pairs_of_places R g n (λ i inside. own i (omega arith)) (λ i j less inside. across i j less (omega arith)) in
    let before : Line → Type 0 = λ l. All (R l) (g n) in
    let each = all_of_each before g (first_indices n) (all_places (λ i. All before (g i)) n (λ i inside. across i n inside (omega arith))) in
    subst (λ m. AllPairs R (flat_map g (first_indices m))) (add-one n)
    (subst (AllPairs R) (sym (places_more g n)) (pairs-append R (flat_map g (first_indices n)) (g n) earlier (own n (omega arith)) each))

billed_some : (l : Line) → is_billed l ≡ true → l.cents.0 ≢ pos 0
billed_some l e none = absurd (true≢false (sym e ∙ ap (λ z. not (int_eq z (pos 0))) none))

-- the codes rise
next_rises : IsStrictlyIncreasing (map charge_code_number all_codes)
next_rises zero inside = omega arith
next_rises (suc zero) inside = omega arith
next_rises (suc (suc zero)) inside = omega arith
next_rises (suc (suc (suc zero))) inside = omega arith
next_rises (suc (suc (suc (suc k)))) inside = absurd (omega arith)

codes_rise : AllPairs (λ c d. charge_code_number c < charge_code_number d) all_codes
codes_rise i j d less inside =
    let numbers : List ℕ = map charge_code_number all_codes in
    let at = AllPairs-from_increasing numbers next_rises i j (charge_code_number d) less inside in
    subst (λ n. n < charge_code_number (get_or all_codes j d)) (get_or-map charge_code_number all_codes i d (charge_code_number d) (omega arith))
    (subst (λ n. get_or numbers i (charge_code_number d) < n) (get_or-map charge_code_number all_codes j d (charge_code_number d) inside) at)

-- lines of a run in an interval, of other accounts
apart_in : (run place id other : ℕ) (code c : ChargeCode) (z y : ℤ) → id ≢ other → InTurn (line run place id code z) (line run place other c y)
apart_in run place id other code c z y apart = record { runs = le_refl run; intervals = λ e. le_refl (place + 1); codes = λ e f same. absurd (apart same) }

-- in an interval
module _ (run place : ℕ) (new earlier : IntervalAmounts) where
  party_in_turn : (i id : ℕ) → AllPairs InTurn (party_changes run place new earlier i id)
  unfolding party_changes
  party_in_turn i id =
      let g : ChargeCode → Line = λ code. line run place id code (cents_at (column_under code new) i -ℤ cents_at (column_under code earlier) i) in
      pairs-map InTurn g all_codes
      (λ i j d less inside. record { runs = le_refl run; intervals = λ e. le_refl (place + 1); codes = λ e f same. codes_rise i j d less inside })

  interval_in_turn : (ids : List ℕ) → Apart ids → AllPairs InTurn (interval_changes run place new earlier ids)
  unfolding interval_changes parties_changes
  interval_in_turn ids apart =
      let g : ℕ → List Line = λ i. party_changes run place new earlier i (slice_index ids i) in
      let n = length ids in
      let across : (i j : ℕ) → i < j → j < n → All (λ l. All (InTurn l) (g j)) (g i) =
      λ i j less inside.
      party_all (λ l. All (InTurn l) (g j)) run place new earlier i (slice_index ids i)
      (λ code z.
      party_all (InTurn (line run place (slice_index ids i) code z)) run place new earlier j (slice_index ids j)
      (λ c y. apart_in run place (slice_index ids i) (slice_index ids j) code c z y (λ same. let e = apart.distinct i j (omega arith) inside same in omega arith))) in
      let last : Line = balance_change run place new earlier in
      let before_last : Line → Type 0 = λ l. All (InTurn l) (last ∷ []) in
      let each =
      all_of_each before_last g (first_indices n)
      (all_places (λ i. All before_last (g i)) n
      (λ i inside.
      party_all before_last run place new earlier i (slice_index ids i)
      (λ code z.
      let own : Line = line run place (slice_index ids i) code z in
      All-cons (InTurn own) last [] (apart_in run place (slice_index ids i) 0 code Cc6476 z (new.balance.0 -ℤ earlier.balance.0) (apart.not_0 i inside)) (All-nil (InTurn own))))) in
      pairs-append InTurn (flat_map g (first_indices n)) (last ∷ [])
      (pairs_of_places InTurn g n (λ i inside. party_in_turn i (slice_index ids i)) across) (λ i j d less inside. absurd (omega arith)) each

module _ (runs : ℕ) (lines : List Line) (ids : List ℕ) (a : HourAmounts) where
  abbrev earlier : ℕ → IntervalAmounts
  earlier = come_to lines ids

  abbrev new : List Line
  new = new_lines (runs + 1) lines ids a

  abbrev all : List Line
  all = changes (runs + 1) (at_index a) earlier ids hour_length

  -- the new lines stand in turn
  pub new_in_turn : Apart ids → AllPairs InTurn new
  unfolding changes
  new_in_turn apart =
      let run : ℕ = runs + 1 in
      let g : ℕ → List Line = λ place. interval_changes run place (at_index a place) (earlier place) ids in
      let later : (i j : ℕ) → i < j → (account other : ℕ) (code c : ChargeCode) (z y : ℤ) → InTurn (line run i account code z) (line run j other c y) =
      λ i j less account other code c z y. record { runs = le_refl run; intervals = λ e. omega arith; codes = λ e same. absurd (omega arith) } in
      let across : (i j : ℕ) → i < j → j < hour_length → All (λ l. All (InTurn l) (g j)) (g i) =
      λ i j less inside.
      let behind : (account : ℕ) (code : ChargeCode) (z : ℤ) → All (InTurn (line run i account code z)) (g j) =
      λ account code z.
      interval_all (InTurn (line run i account code z)) run j (at_index a j) (earlier j) ids
      (λ q c y lt. later i j less account (slice_index ids q) code c z y) (λ y. later i j less account 0 code Cc6476 z y) in
      interval_all (λ l. All (InTurn l) (g j)) run i (at_index a i) (earlier i) ids (λ p code z lt. behind (slice_index ids p) code z) (λ z. behind 0 Cc6476 z) in
      AllPairs-filter InTurn is_billed all
      (pairs_of_places InTurn g hour_length (λ place inside. interval_in_turn run place (at_index a place) (earlier place) ids apart) across)

  -- and each is as it must be
  pub new_each : Apart ids → All (IsLine (runs + 1)) new
  new_each apart =
      let Shape : Line → Type 0 = λ l. (l.run ≡ runs + 1) × (1 ≤ l.interval) × (l.interval ≤ hour_length) × (l.account ≡ 0 → l.code ≡ Cc6476) in
      let shaped : All Shape new =
      All-filter is_billed Shape all
      (changes_all Shape (runs + 1) (at_index a) earlier ids hour_length
      (λ place i code z inside within. (refl, omega arith, omega arith, λ e. absurd (apart.not_0 i within e)))
      (λ place z inside. (refl, omega arith, omega arith, λ e. refl))) in
      let billing : All (λ l. is_billed l ≡ true) new = filter_passes is_billed all in
      λ k d inside.
      let shape = shaped k d inside in
      let run = shape.0 in
      record {
        of_run = (omega arith, omega arith);
        of_interval = (shape.1, shape.2);
        of_0 = shape.3;
        bills = billed_some (get_or new k d) (billing k d inside);
      }

  -- they stand behind the lines before
  pub in_turn_after : All (IsLine runs) lines → All (λ l. All (InTurn l) new) lines
  in_turn_after each =
      All-weaker (IsLine runs) (λ l. All (InTurn l) new)
      (λ l known k d inside.
      let own = run_is (runs + 1) lines ids a k d inside in
      let before = known.of_run in
      record { runs = omega (arith, before.1); intervals = λ e. absurd (omega (arith, before.1)); codes = λ e same. absurd (omega (arith, before.1)) })
      lines each

-- lines are as they must be where there is a run more
pub still_line : (runs : ℕ) (l : Line) → IsLine runs l → IsLine (runs + 1) l
still_line runs l is =
    let r = is.of_run in record { of_run = (r.0, omega (arith, r.1)); of_interval = is.of_interval; of_0 = is.of_0; bills = is.bills }
