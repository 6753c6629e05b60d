-- What lines come to after a run, and that it balances. Assumes nothing.
use Rattle.std.proofs.Common.{◌≡◌, ℕ, ◌+◌, ◌-◌, ◌<◌, ◌==◌, Bool, false, ◌&&◌, List, ◌++◌, length, pos, refl, sym, subst, ◌∙◌, ⊎_elim, arith, eqb-true, eq-eqb}
use Rattle.std.specs.List.{All}
use Rattle.std.proofs.lemmas.Bool.{cases_Bool, cases_lt, eqb-false, false_from_ne_true}
use Rattle.std.proofs.lemmas.Int.{ints}
use Rattle.std.proofs.lemmas.List.Elements.{All-weaker}
use Rattle.deemed.specs.Ranges.{hour_length}
use Rattle.charges.specs.declared.amounts.HourAmounts.{HourAmounts}
use Rattle.charges.specs.declared.code.ChargeCode.{ChargeCode}
use Rattle.charges.specs.Charged.{at_index}
use Rattle.statement.specs.declared.line.Line.{Line}
use Rattle.statement.specs.Lines.{total_of, come_to, new_lines}
use Rattle.statement.proofs.Known.{Apart, interval_total}
use Rattle.statement.proofs.LineTotals.{total_of-append, total_of_none, total_of_same}
use Rattle.statement.proofs.Columns.{come_to_agrees}
use Rattle.statement.proofs.IntervalTotals.{same_total}
use Rattle.statement.proofs.NewLines.{agrees_after, run_is, interval_change, no_interval}

not_equal : (m n : ℕ) → (m ≡ n → ⊥) → (m == n) ≡ false
not_equal m n other = false_from_ne_true (m == n) (λ same. other (eqb-true m n same))

-- codes that pass a test
module _ (runs : ℕ) (lines : List Line) (ids : List ℕ) (a : HourAmounts) (apart : Apart ids) (t : ChargeCode → Bool) where
  abbrev new : List Line
  new = new_lines (runs + 1) lines ids a

  -- the lines of an interval, by its number, and those of a run in it
  abbrev of_interval : ℕ → Line → Bool
  of_interval interval l = l.interval == interval && t l.code

  abbrev of_run : ℕ → ℕ → Line → Bool
  of_run run interval l = l.run == run && of_interval interval l

  -- after the run lines come to what the amounts do
  pub total_after : (place : ℕ) → place < hour_length → interval_total t (length ids) (come_to (lines ++ new) ids place) ≡ interval_total t (length ids) (at_index a place)
  total_after place inside =
      same_total (lines ++ new) ids place (come_to (lines ++ new) ids place) (at_index a place)
      (come_to_agrees (lines ++ new) ids place) (agrees_after (runs + 1) lines ids a apart place inside) t

  -- and if all lines of the interval came to what those of the parties and account 0 do, then they still do
  pub all_after : (place : ℕ) → place < hour_length → total_of (of_interval (place + 1)) lines ≡ interval_total t (length ids) (come_to lines ids place)
      → total_of (of_interval (place + 1)) (lines ++ new) ≡ interval_total t (length ids) (come_to (lines ++ new) ids place)
  all_after place inside before =
      total_of-append (of_interval (place + 1)) lines new
      ∙ omega (arith, ints, before, total_after place inside, interval_change (runs + 1) lines ids a t place inside)

  -- where the amounts of each interval balance, and the lines did
  module _ (amounts_balance : (place : ℕ) → place < hour_length → interval_total t (length ids) (at_index a place) ≡ pos 0)
      (balanced : (place : ℕ) → place < hour_length → interval_total t (length ids) (come_to lines ids place) ≡ pos 0) where
    -- the new lines do
    new_balance : (interval : ℕ) → total_of (of_interval interval) new ≡ pos 0
    new_balance interval =
        let none_of : ((place : ℕ) → place < hour_length → interval ≡ place + 1 → ⊥) → total_of (of_interval interval) new ≡ pos 0 =
        λ outside. no_interval (runs + 1) lines ids a t interval (λ place inside. not_equal interval (place + 1) (outside place inside)) in
        ⊎_elim
        (λ is_0. none_of (λ place inside same. omega arith))
        (λ some.
        ⊎_elim
        (λ inside.
        let place : ℕ = interval - 1 in
        let same : place + 1 ≡ interval = omega arith in
        subst (λ n. total_of (of_interval n) new ≡ pos 0) same
        (interval_change (runs + 1) lines ids a t place inside ∙ omega (arith, ints, amounts_balance place inside, balanced place inside)))
        (λ past. none_of (λ place inside same. omega arith))
        (cases_lt (interval - 1) hour_length))
        (cases_lt interval 1)

    -- and so each run does
    pub runs_balance : ((run interval : ℕ) → total_of (of_run run interval) lines ≡ pos 0) → (run interval : ℕ) → total_of (of_run run interval) (lines ++ new) ≡ pos 0
    runs_balance before run interval =
        let both = total_of-append (of_run run interval) lines new in
        let own : All (λ l. l.run ≡ runs + 1) new = run_is (runs + 1) lines ids a in
        let later : total_of (of_run run interval) new ≡ pos 0 =
        ⊎_elim
        (λ same.
        let this : run ≡ runs + 1 = eqb-true run (runs + 1) same in
        total_of_same (of_run run interval) (of_interval interval) new
        (All-weaker (λ l. l.run ≡ runs + 1) (λ l. of_run run interval l ≡ of_interval interval l)
        (λ l e. rw (eq-eqb l.run run (e ∙ sym this)) refl) new own)
        ∙ new_balance interval)
        (λ other.
        total_of_none (of_run run interval) new
        (All-weaker (λ l. l.run ≡ runs + 1) (λ l. of_run run interval l ≡ false)
        (λ l e. rw (not_equal l.run run (λ same. eqb-false run (runs + 1) other (sym same ∙ e))) refl) new own))
        (cases_Bool (run == runs + 1)) in
        both ∙ omega (arith, ints, before run interval, later)
