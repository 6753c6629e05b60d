-- What a settle answers and leaves is determined by the statement and the rule's meaning. Assumes nothing.
use Rattle.std.proofs.Common.{◌≡◌, ℕ, ◌+◌, true, List, [], ◌∷◌, ◌++◌, filter, length, Option, Some, None, Ok, ℤ, refl, sym, ap, ◌∙◌}
use Rattle.deemed.specs.Ranges.{hour_length}
use Rattle.tables.specs.declared.refusal.Reason.TheVariants.{LinesFull}
use Rattle.tables.specs.declared.refusal.Refusal.{Refusal}
use Rattle.tables.specs.Refusals.{◌unless◌, first_fit, state_after}
use Rattle.tables.specs.Tables.{has_room_for, with_rows}
use Rattle.tables.proofs.Firsts.{first_fit-front}
use Rattle.records.specs.Sound.{Sound}
use Rattle.charges.specs.declared.amounts.HourAmounts.{HourAmounts}
use Rattle.charges.specs.Charged.{HourCharged, at_index}
use Rattle.charges.proofs.Determined.{determined, alike_itself}
use Rattle.statement.specs.declared.statement.Statement.{Statement}
use Rattle.statement.specs.Lines.{is_billed, come_to}
use Rattle.statement.specs.Statements.{ids, added, refusal, with_renewed, with_run, reasons_before_work, settle_reasons, settle_answer}
use Rattle.statement.specs.Promises.{OneOutcome}
use Rattle.statement.proofs.Reaching.{reached}
use Rattle.statement.proofs.SameChanges.{same_changes}

-- settles to amounts that add the same lines have the same outcome
module _ (shares : ℤ → List ℕ → List ℤ) (before : Statement) (a c : HourAmounts) (same : added a before ≡ added c before) where
  same_fit : first_fit (settle_reasons shares a before) ≡ first_fit (settle_reasons shares c before)
  same_fit = ap (λ lines. first_fit (reasons_before_work shares before ++ refusal LinesFull unless has_room_for lines before.lines ∷ [])) same

  same_answer : (o : Option Refusal) → settle_answer o a before ≡ settle_answer o c before
  same_answer None = ap (λ lines. Ok (record { number = before.runs + 1; lines = length lines })) same
  same_answer (Some r) = refl

  same_run : with_run shares a before ≡ with_run shares c before
  same_run = ap (λ lines. record { records = with_renewed shares before.records; lines = with_rows before.lines lines; runs = before.runs + 1; settled = true }) same

-- amounts that are charged by the same rule add the same lines
same_added : (shares : ℤ → List ℕ → List ℤ) (before : Statement) (a c : HourAmounts) → Sound before.records → HourCharged shares before.records a → HourCharged shares before.records c
    → added a before ≡ added c before
same_added shares before a c sound one other =
    let earlier = come_to before.lines.rows (ids before) in
    ap (filter is_billed)
    (same_changes (before.runs + 1) (at_index a) (at_index c) earlier earlier (ids before) hour_length
    (λ place inside. determined sound.homes (one.intervals place inside) (other.intervals place inside)) (λ place inside. alike_itself (earlier place)))

pub one_outcome : OneOutcome
one_outcome shares before one other r s history settled settled' = by_fit (first_fit (reasons_before_work shares before)) refl
  where
    a : HourAmounts
    a = settled.amounts

    c : HourAmounts
    c = settled'.amounts

    by_fit : (o : Option Refusal) → first_fit (reasons_before_work shares before) ≡ o → (one ≡ other) × (r ≡ s)
    -- the amounts are charged
    by_fit None e =
        let same : added a before ≡ added c before = same_added shares before a c (reached before history).sound (settled.charged e) (settled'.charged e) in
        let fit = same_fit shares before a c same in (
          settled.statement ∙ (λ k. state_after (fit k) (same_run shares before a c same k) before) ∙ sym settled'.statement,
          settled.answer ∙ ap (λ o. settle_answer o a before) fit ∙ same_answer shares before a c same (first_fit (settle_reasons shares c before)) ∙ sym settled'.answer,
        )
    -- whatever they are, it is refused
    by_fit (Some f) e =
        let refused : (x : HourAmounts) → first_fit (settle_reasons shares x before) ≡ Some f = λ x. first_fit-front (reasons_before_work shares before) _ f e in (
          rw (refused a) at settled.statement ∙ sym (rw (refused c) at settled'.statement),
          rw (refused a) at settled.answer ∙ sym (rw (refused c) at settled'.answer),
        )
