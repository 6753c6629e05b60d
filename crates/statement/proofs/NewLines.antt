-- What the lines of a run come to. Assumes nothing.
use Rattle.std.proofs.Common.{◌≡◌, ◌≢◌, ℕ, ◌+◌, ◌<◌, ◌==◌, Bool, true, false, ◌&&◌, List, ◌++◌, length, ℤ, pos, ◌-ℤ◌, slice_index, refl, sym, ap, ◌∙◌, eq-eqb, ne_eqb, arith}
use Rattle.std.specs.List.{All}
use Rattle.std.proofs.lemmas.Bool.{and_left, and_right, or_right, eqb-false}
use Rattle.std.proofs.lemmas.Int.{ints}
use Rattle.std.proofs.lemmas.List.Elements.{All-filter}
use Rattle.std.proofs.lemmas.List.Folds.{list_any_at}
use Rattle.deemed.specs.Ranges.{hour_length}
use Rattle.charges.specs.declared.amounts.HourAmounts.{HourAmounts}
use Rattle.charges.specs.declared.code.ChargeCode.{ChargeCode}
use Rattle.charges.specs.declared.code.ChargeCode.TheVariants.{Cc6476}
use Rattle.charges.specs.Codes.{column_under}
use Rattle.charges.specs.Charged.{at_index}
use Rattle.statement.specs.declared.line.Line.{Line}
use Rattle.statement.specs.Lines.{total_of, come_to, cents_at, key, line, same_code, is_billed, changes, new_lines}
use Rattle.statement.proofs.Known.{known, Apart, interval_total, Agrees}
use Rattle.statement.proofs.Columns.{come_to_agrees}
use Rattle.statement.proofs.LineTotals.{total_of-append, total_of_none, total_of_billed}
use Rattle.statement.proofs.Changing.{changes_all, party_change, whole_change, only_party, only_balance, only_interval, total_under}

-- lines of other intervals, and those of other accounts, do not pass
other_place : (other place : ℕ) (t : Bool) → other ≢ place → (other + 1 == place + 1 && t) ≡ false
other_place other place t apart = and_left (other + 1 == place + 1) t (ne_eqb (other + 1) (place + 1) (λ e. apart (omega arith)))

-- in the interval just the code is left
same_place : (place : ℕ) (t : Bool) → (place + 1 == place + 1 && t) ≡ t
same_place place t = ap (λ b. b && t) (eq-eqb (place + 1) (place + 1) refl)

module _ (run : ℕ) (lines : List Line) (ids : List ℕ) (a : HourAmounts) where
  abbrev changed : List Line
  changed = changes run (at_index a) (come_to lines ids) ids hour_length

  -- which lines pass the test of an account in an interval under a code
  module _ (code : ChargeCode) (place account : ℕ) where
    abbrev test : Line → Bool
    test = key code place account

    keyed_elsewhere : (other id : ℕ) (c : ChargeCode) (z : ℤ) → other ≢ place → test (line run other id c z) ≡ false
    keyed_elsewhere other id c z apart = and_right (id == account) (other + 1 == place + 1 && same_code c code) (other_place other place (same_code c code) apart)

    keyed_other : (id : ℕ) (c : ChargeCode) (z : ℤ) → id ≢ account → test (line run place id c z) ≡ false
    keyed_other id c z apart = and_left (id == account) (place + 1 == place + 1 && same_code c code) (ne_eqb id account apart)

    keyed_own : (c : ChargeCode) (z : ℤ) → test (line run place account c z) ≡ same_code c code
    keyed_own c z = ap (λ b. b && (place + 1 == place + 1 && same_code c code)) (eq-eqb account account refl) ∙ same_place place (same_code c code)

  -- after the run, lines come to the amounts
  pub agrees_after : Apart ids → (place : ℕ) → place < hour_length → Agrees (lines ++ new_lines run lines ids a) ids place (at_index a place)
  agrees_after apart place inside = record {
    parties = λ code i within.
        let id = slice_index ids i in
        let test : Line → Bool = key code place id in
        let new = at_index a place in
        let earlier = come_to lines ids place in
        let added : total_of test (new_lines run lines ids a) ≡ cents_at (column_under code new) i -ℤ cents_at (column_under code earlier) i =
        total_of_billed test changed
        ∙ only_interval test run (at_index a) (come_to lines ids) ids hour_length place inside (keyed_elsewhere code place id)
        ∙ only_party test run place new earlier ids i within
        (λ j c z lt other. keyed_other code place id (slice_index ids j) c z (λ e. other (apart.distinct j i lt within e)))
        (λ z. keyed_other code place id 0 Cc6476 z (λ e. apart.not_0 i within (sym e)))
        ∙ party_change test (λ c. same_code c code) run place new earlier i id (keyed_own code place id)
        ∙ (λ k. total_under code new i k -ℤ total_under code earlier i k) in
        omega (arith, ints, total_of-append test lines (new_lines run lines ids a), added, (come_to_agrees lines ids place).parties code i within);
    balance =
        let test : Line → Bool = key Cc6476 place 0 in
        let new = at_index a place in
        let earlier = come_to lines ids place in
        let added : total_of test (new_lines run lines ids a) ≡ new.balance.0 -ℤ earlier.balance.0 =
        total_of_billed test changed
        ∙ only_interval test run (at_index a) (come_to lines ids) ids hour_length place inside (keyed_elsewhere Cc6476 place 0)
        ∙ only_balance test run place new earlier ids (λ j c z lt. keyed_other Cc6476 place 0 (slice_index ids j) c z (apart.not_0 j lt)) (keyed_own Cc6476 place 0 Cc6476) in
        omega (arith, ints, total_of-append test lines (new_lines run lines ids a), added, (come_to_agrees lines ids place).balance);
  }

  -- the new lines are those of the run, and have the accounts of parties, or account 0
  pub run_is : All (λ l. l.run ≡ run) (new_lines run lines ids a)
  run_is =
      let P : Line → Type 0 = λ l. l.run ≡ run in
      All-filter is_billed P changed (changes_all P run (at_index a) (come_to lines ids) ids hour_length (λ place i code z inside within. refl) (λ place z inside. refl))

  pub accounts_known : All (λ l. known ids l.account ≡ true) (new_lines run lines ids a)
  accounts_known =
      let P : Line → Type 0 = λ l. known ids l.account ≡ true in
      All-filter is_billed P changed
      (changes_all P run (at_index a) (come_to lines ids) ids hour_length
      (λ place i code z inside within.
      let id = slice_index ids i in
      or_right (id == 0) _ (list_any_at (λ x. x == id) ids i 0 within (eq-eqb id id refl)))
      (λ place z inside. refl))

  -- in an interval, under codes that pass a test, they come to the difference
  pub interval_change : (t : ChargeCode → Bool) (place : ℕ) → place < hour_length
      → total_of (λ l. l.interval == place + 1 && t l.code) (new_lines run lines ids a)
      ≡ interval_total t (length ids) (at_index a place) -ℤ interval_total t (length ids) (come_to lines ids place)
  interval_change t place inside =
      let test : Line → Bool = λ l. l.interval == place + 1 && t l.code in
      total_of_billed test changed
      ∙ only_interval test run (at_index a) (come_to lines ids) ids hour_length place inside (λ other account code z apart. other_place other place (t code) apart)
      ∙ whole_change test t run place (at_index a place) (come_to lines ids place) ids (λ account code z. same_place place (t code))

  -- and there are none of other intervals
  pub no_interval : (t : ChargeCode → Bool) (interval : ℕ) → ((place : ℕ) → place < hour_length → (interval == place + 1) ≡ false)
      → total_of (λ l. l.interval == interval && t l.code) (new_lines run lines ids a) ≡ pos 0
  no_interval t interval outside =
      let test : Line → Bool = λ l. l.interval == interval && t l.code in
      let fails : (place : ℕ) (code : ChargeCode) → place < hour_length → (place + 1 == interval && t code) ≡ false =
      λ place code inside. and_left (place + 1 == interval) (t code)
      (ne_eqb (place + 1) interval (λ e. eqb-false interval (place + 1) (outside place inside) (sym e))) in
      total_of_billed test changed
      ∙ total_of_none test changed
      (changes_all (λ l. test l ≡ false) run (at_index a) (come_to lines ids) ids hour_length (λ place i code z inside within. fails place code inside)
      (λ place z inside. fails place Cc6476 inside))
