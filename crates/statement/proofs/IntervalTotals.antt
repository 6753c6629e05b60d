-- What the parties and account 0 have in an interval, under the codes that pass a test. Assumes nothing.
use Rattle.std.proofs.Common.{◌≡◌, ℕ, suc, ◌+◌, ◌-◌, ◌<◌, ◌≤◌, Bool, true, false, not, cond, List, [], ◌∷◌, ◌++◌, map, length, replicate, ℤ, pos, ◌+ℤ◌, slice_index, refl, sym, ap, ◌∙◌, append_assoc, length-append, arith}
use Rattle.std.proofs.lemmas.Int.{ints}
use Rattle.std.proofs.lemmas.List.{map-append, get_or_append_left, get_or-append-add, replicate-append-replicate}
use Rattle.sharing.specs.Laws.{total}
use Rattle.rows.specs.declared.figures.Cents.{Cents}
use Rattle.records.specs.Ranges.{most_parties}
use Rattle.charges.specs.declared.amounts.IntervalAmounts.{IntervalAmounts}
use Rattle.charges.specs.declared.code.ChargeCode.{ChargeCode}
use Rattle.charges.specs.declared.code.ChargeCode.TheVariants.{Cc6470, Cc6474, Cc6475, Cc6476, Cc6477}
use Rattle.charges.specs.Amounts.{cents, no_cents}
use Rattle.charges.specs.Codes.{all_codes, column_under}
use Rattle.charges.specs.Faults.{first_indices}
use Rattle.charges.proofs.Totals.{total_of_sums, total_at_front}
use Rattle.statement.specs.declared.line.Line.{Line}
use Rattle.statement.specs.Lines.{cents_at, tally, come_to, billed, is_surcharge, same_code}
use Rattle.statement.specs.Tallies.{Tallied}
use Rattle.statement.proofs.Known.{interval_total, party_total, Agrees, Behind}
use Rattle.statement.proofs.Places.{over_same, over_further, front_total}
use Rattle.statement.proofs.Columns.{come_to_agrees}

-- what the party at a place has under a code
abbrev stands : IntervalAmounts → ℕ → ChargeCode → ℤ
stands x i code = cents_at (column_under code x) i

-- the same numbers under each code have the same totals
same_interval : (t : ChargeCode → Bool) (n : ℕ) (x y : IntervalAmounts) → ((i : ℕ) → i < n → (code : ChargeCode) → stands x i code ≡ stands y i code)
    → x.balance.0 ≡ y.balance.0 → interval_total t n x ≡ interval_total t n y
unfolding interval_total party_total
same_interval t n x y same account =
    let parties = over_same (party_total t x) (party_total t y) n (λ i inside k. total (map (λ code. cond (t code) (same i inside code k) (pos 0)) all_codes)) in
    λ k. parties k +ℤ cond (t Cc6476) (account k) (pos 0)

-- amounts that agree with the same lines have the same totals
pub same_total : (lines : List Line) (ids : List ℕ) (place : ℕ) (x y : IntervalAmounts) → Agrees lines ids place x → Agrees lines ids place y
    → (t : ChargeCode → Bool) → interval_total t (length ids) x ≡ interval_total t (length ids) y
same_total lines ids place x y xs ys t =
    same_interval t (length ids) x y (λ i inside code. xs.parties code i inside ∙ sym (ys.parties code i inside)) (xs.balance ∙ sym ys.balance)

-- with nothing behind, totals are those of columns
module _ (n : ℕ) (x : IntervalAmounts) (few : n ≤ most_parties) (behind : Behind n x) where
  column_total : (code : ChargeCode) → total (map (cents_at (column_under code x)) (first_indices n)) ≡ total (cents (column_under code x))
  column_total code =
      let column : List Cents = column_under code x in
      let b = behind code in
      sym (total_at_front n (most_parties - n) column b.1 ∙ front_total n column (omega arith))

  pub surcharge_total : interval_total is_surcharge n x ≡ total (cents x.cc_6476) +ℤ x.balance.0
  unfolding interval_total party_total
  surcharge_total =
      let parties = over_same (party_total is_surcharge x) (cents_at x.cc_6476) n (λ i inside. omega (arith, ints)) in
      ap (λ z. z +ℤ x.balance.0) (parties ∙ column_total Cc6476)

  pub other_total : interval_total (λ c. not (is_surcharge c)) n x
      ≡ total (cents x.cc_6470) +ℤ total (cents x.cc_6474) +ℤ total (cents x.cc_6475) +ℤ total (cents x.cc_6477)
  unfolding interval_total party_total
  other_total =
      let at : ChargeCode → ℕ → ℤ = λ code i. stands x i code in
      let of_party : ℕ → ℤ = λ i. at Cc6470 i +ℤ at Cc6474 i +ℤ at Cc6475 i +ℤ at Cc6477 i in
      let places : List ℕ = first_indices n in
      let parties = over_same (party_total (λ c. not (is_surcharge c)) x) of_party n (λ i inside. omega (arith, ints)) in
      omega (
        arith,
        ints,
        parties,
        total_of_sums (λ i. at Cc6470 i +ℤ at Cc6474 i +ℤ at Cc6475 i) (at Cc6477) places,
        total_of_sums (λ i. at Cc6470 i +ℤ at Cc6474 i) (at Cc6475) places,
        total_of_sums (at Cc6470) (at Cc6474) places,
        column_total Cc6470,
        column_total Cc6474,
        column_total Cc6475,
        column_total Cc6477,
      )

  pub offset_total : interval_total (λ c. same_code c Cc6477) n x ≡ total (cents x.cc_6477)
  unfolding interval_total party_total
  offset_total =
      let parties = over_same (party_total (λ c. same_code c Cc6477) x) (cents_at x.cc_6477) n (λ i inside. omega (arith, ints)) in
      let column = column_total Cc6477 in
      omega (arith, ints)

-- parties with 0 under each code add nothing
none_counted : (t : ChargeCode → Bool) → total (map (λ code. cond (t code) (pos 0) (pos 0)) all_codes) ≡ pos 0
none_counted t = rw (zero_of (t Cc6470), zero_of (t Cc6474), zero_of (t Cc6475), zero_of (t Cc6476), zero_of (t Cc6477)) refl
  where
    zero_of : (b : Bool) → cond b (pos 0) (pos 0) ≡ pos 0
    zero_of true = refl
    zero_of false = refl

further_interval : (t : ChargeCode → Bool) (n more : ℕ) (x : IntervalAmounts) → ((i : ℕ) → i < more → (code : ChargeCode) → stands x (n + i) code ≡ pos 0)
    → interval_total t (n + more) x ≡ interval_total t n x
unfolding interval_total party_total
further_interval t n more x none =
    ap (λ z. z +ℤ cond (t Cc6476) x.balance.0 (pos 0))
    (over_further (party_total t x) n more (λ i inside. (λ k. total (map (λ code. cond (t code) (none i inside code k) (pos 0)) all_codes)) ∙ none_counted t))

-- more ids of which nothing is billed change no tally and no total
module _ (f : ℕ → ℤ) where
  empty_further : (more : List ℕ) → ((i : ℕ) → i < length more → f (slice_index more i) ≡ pos 0)
      → map (λ id. record { 0 = f id }) more ≡ replicate (length more) no_cents
  empty_further [] none = refl
  empty_further (id ∷ more) none =
      let first = none 0 (omega arith) in
      let later = empty_further more (λ i inside. none (suc i) (omega arith)) in
      λ k. record { 0 = first k } ∷ later k

  grown : (ids more : List ℕ) → length (ids ++ more) ≤ most_parties → ((i : ℕ) → i < length more → f (slice_index more i) ≡ pos 0)
      → tally f (ids ++ more) ≡ tally f ids
  grown ids more few none =
      let entry : ℕ → Cents = λ id. record { 0 = f id } in
      let k : ℕ = most_parties - length (ids ++ more) in
      let long = length-append ids more in
      let left : length more + k ≡ most_parties - length ids = omega arith in
      ap (λ l. l ++ replicate k no_cents) (map-append entry ids more) ∙ append_assoc (map entry ids) (map entry more) (replicate k no_cents)
      ∙ ap (λ l. map entry ids ++ (l ++ replicate k no_cents)) (empty_further more none)
      ∙ ap (λ l. map entry ids ++ l) (replicate-append-replicate (length more) k no_cents) ∙ ap (λ n. map entry ids ++ replicate n no_cents) left

module _ (lines : List Line) (ids more : List ℕ) (few : length (ids ++ more) ≤ most_parties) (place : ℕ)
    (unbilled : (code : ChargeCode) (i : ℕ) → i < length more → billed lines code place (slice_index more i) ≡ pos 0) where
  pub grown_total : (t : ChargeCode → Bool)
      → interval_total t (length (ids ++ more)) (come_to lines (ids ++ more) place) ≡ interval_total t (length ids) (come_to lines ids place)
  grown_total t =
      let n : ℕ = length ids in
      let after : IntervalAmounts = come_to lines (ids ++ more) place in
      let before : IntervalAmounts = come_to lines ids place in
      let all = come_to_agrees lines (ids ++ more) place in
      let earlier = come_to_agrees lines ids place in
      let long : length (ids ++ more) ≡ n + length more = length-append ids more in
      let same : (i : ℕ) → i < n → (code : ChargeCode) → stands after i code ≡ stands before i code =
      λ i inside code. all.parties code i (omega arith) ∙ ap (billed lines code place) (get_or_append_left ids more 0 i inside) ∙ sym (earlier.parties code i inside) in
      let none : (i : ℕ) → i < length more → (code : ChargeCode) → stands after (n + i) code ≡ pos 0 =
      λ i inside code. all.parties code (n + i) (omega arith) ∙ ap (billed lines code place) (get_or-append-add ids more i 0) ∙ unbilled code i inside in
      ap (λ k. interval_total t k after) long ∙ further_interval t n (length more) after none ∙ same_interval t n after before same (all.balance ∙ sym earlier.balance)

  pub grown_tallied : (x : IntervalAmounts) → Tallied lines ids place x → Tallied lines (ids ++ more) place x
  grown_tallied x tallied = record {
    parties = λ code. tallied.parties code ∙ sym (grown (billed lines code place) ids more few (unbilled code));
    balance = tallied.balance;
  }
