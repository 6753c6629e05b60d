-- What the steps of a settle answer, and what they come to together. Assumes nothing.
use Rattle.std.proofs.Common.{◌≡◌, ℕ, ◌+◌, ◌==◌, Bool, true, false, List, [], ◌∷◌, map, filter, length, ℤ, Some, None, option_map, Result, Ok, Err, refl, sym, ap, subst, ◌∙◌, arith}
use Rattle.std.specs.Result.{MatchResult}
use Rattle.sharing.specs.Laws.{Lawful}
use Rattle.tables.specs.declared.refusal.Refusal.{Refusal}
use Rattle.tables.specs.declared.refusal.Reason.TheVariants.{LinesFull}
use Rattle.tables.specs.Refusals.{Fit, first_fit, ◌unless◌}
use Rattle.tables.specs.Tables.{has_room_for, with_rows}
use Rattle.tables.proofs.Firsts.{first_fit-append, first_fit-front, first_fit-reason_as, first_fit-none_told}
use Rattle.deemed.specs.Ranges.{hour_length}
use Rattle.rows.specs.declared.party.Party.{Party}
use Rattle.records.specs.Hours.{party_id}
use Rattle.charges.specs.declared.amounts.IntervalAmounts.{IntervalAmounts}
use Rattle.charges.specs.declared.amounts.HourAmounts.{HourAmounts}
use Rattle.charges.specs.declared.fault.ChargeFault.{ChargeFault}
use Rattle.charges.specs.Faults.{hour_faults, refusal_of}
use Rattle.charges.specs.Charged.{WorkedOut}
use Rattle.statement.specs.declared.line.Line.{Line}
use Rattle.statement.specs.declared.run.Run.{Run}
use Rattle.statement.specs.declared.statement.Statement.{Statement}
use Rattle.statement.specs.Ranges.{most_runs}
use Rattle.statement.specs.Lines.{is_billed, changes}
use Rattle.statement.specs.Small.{at}
use Rattle.statement.specs.Statements.{added, with_run, refusal, reasons_before_work, settle_reasons, Settled}
use Rattle.statement.specs.Tallies.{Kept}
use Rattle.statement.specs.Working.{HourWorkedOut, RunBooked}
use Rattle.statement.proofs.Renewed.{deemed_renewed}
use Rattle.statement.proofs.Keeping.{changes_by_totals, kept_run}

module _ (shares : ℤ → List ℕ → List ℤ) (b : Statement) where
  -- the faults of the hour
  abbrev faults : List (Fit ChargeFault)
  faults = hour_faults shares b.records.areas.rows b.records.parties.rows b.records.resources.rows

  -- where a run is left, the first reason is the first fault, told as a refusal
  first_fault : (b.runs == most_runs) ≡ false → first_fit (reasons_before_work shares b) ≡ option_map refusal_of (first_fit faults)
  first_fault run_left = rw run_left (first_fit-reason_as refusal_of faults)

  pub hour_worked_out : (b.runs == most_runs) ≡ false → (worked : Result HourAmounts ChargeFault) (r : Result HourAmounts Refusal)
      → MatchResult worked (λ a. r ≡ Ok a) (λ f. r ≡ Err (refusal_of f)) → WorkedOut shares b.records worked → HourWorkedOut shares b r
  hour_worked_out run_left (Ok a) r is w = rw is (first_fault run_left ∙ ap (option_map refusal_of) w.0, w.1, w.2)
  hour_worked_out run_left (Err f) r is w = rw is (first_fault run_left ∙ ap (option_map refusal_of) w)

  -- where no reason fits, no fault does
  unfaulted : first_fit (reasons_before_work shares b) ≡ None → first_fit faults ≡ None
  unfaulted none =
      let run_left : (b.runs == most_runs) ≡ false = grind (arith, none) in
      first_fit-none_told refusal_of faults (rw run_left at none)

  -- refused before the amounts are worked out
  pub settled_unworked : (e : Refusal) → first_fit (reasons_before_work shares b) ≡ Some e → Settled shares b b (Err e)
  settled_unworked e first =
      let nothing : HourAmounts = record { deemed = []; intervals = [] } in
      let refused = first_fit-front (reasons_before_work shares b) (refusal LinesFull unless has_room_for (added nothing b) b.lines ∷ []) e first in
      record {
        amounts = nothing;
        charged = λ none. absurd (let no : Some e ≡ None = sym first ∙ none in cc);
        answer = rw refused refl;
        statement = rw refused refl;
      }

-- the amounts are worked out, and the lines are what they differ by from the running totals
module _
    (shares : ℤ → List ℕ → List ℤ)
    (b : Statement)
    (totals : List IntervalAmounts)
    (kept : Kept b totals)
    (a : HourAmounts)
    (worked : HourWorkedOut shares b (Ok a))
    (parties : List Party)
    (are : parties ≡ b.records.parties.rows)
    (lines : List Line)
    (differ : lines ≡ filter is_billed (changes (b.runs + 1) (at a.intervals) (at totals) (map party_id parties) hour_length))
  where
    -- then they are what the amounts differ by from the lines so far
    lines_are : lines ≡ added a b
    lines_are =
        differ
        ∙ ap (λ ps. filter is_billed (changes (b.runs + 1) (at a.intervals) (at totals) (map party_id ps) hour_length)) are
        ∙ ap (filter is_billed) (changes_by_totals b totals kept (b.runs + 1) a)

    run_is : (after : Statement) (run : Run) → RunBooked a lines b after (Ok run) → after ≡ with_run shares a b
    run_is after run booked =
        booked.2
        ∙ ap (λ h. record { records = h; lines = with_rows b.lines lines; runs = b.runs + 1; settled = true }) (deemed_renewed shares b.records a worked.1)
        ∙ ap (λ l. record (with_run shares a b) { lines = with_rows b.lines l }) lines_are

    -- only the room for the lines is left to be asked
    reasons_left : (fits : Bool) → has_room_for lines b.lines ≡ fits → first_fit (settle_reasons shares a b) ≡ first_fit (refusal LinesFull unless fits ∷ [])
    reasons_left fits is =
        first_fit-append (reasons_before_work shares b) (refusal LinesFull unless has_room_for (added a b) b.lines ∷ []) worked.0
        ∙ ap (λ fits. first_fit (refusal LinesFull unless fits ∷ [])) (ap (λ l. has_room_for l b.lines) (sym lines_are) ∙ is)

    pub settled_booked : (after : Statement) (r : Result Run Refusal) → RunBooked a lines b after r → Settled shares b after r
    settled_booked after (Ok run) booked =
        let accepted = reasons_left true booked.0 in
        record {
          amounts = a;
          charged = λ none. worked.1;
          answer = rw accepted (ap Ok (booked.1 ∙ ap (λ l. record { number = b.runs + 1; lines = length l }) lines_are));
          statement = rw accepted (run_is after run booked);
        }
    settled_booked after (Err e) booked =
        let refused = reasons_left false booked.0 in
        record { amounts = a; charged = λ none. worked.1; answer = rw refused (ap Err booked.1); statement = rw refused booked.2 }

    -- the new amounts are the running totals then
    pub kept_booked : Lawful shares → (after : Statement) (run : Run) → RunBooked a lines b after (Ok run) → Kept after a.intervals
    kept_booked lawful after run booked =
        let is : after ≡ with_run shares a b = run_is after run booked in
        let settled : Settled shares b (with_run shares a b) (Ok run) = subst (λ x. Settled shares b x (Ok run)) is (settled_booked after (Ok run) booked) in
        subst (λ x. Kept x a.intervals) (sym is) (kept_run lawful b totals kept a (Ok run) (unfaulted shares b worked.0) worked.1 worked.2 settled)
