-- What lines leave of a statement: a history leads to it, and of the lines' orders the accepted ones alone lead there.
use Rattle.std.proofs.Common.{◌≡◌, ◌∙◌, sym, ap, subst, ℕ, List, [], ◌∷◌, Option, Some, None, Ok, Err, refl}
use Rattle.std.specs.Option.{option_map}
use Rattle.sharing.specs.Laws.{Lawful}
use Rattle.sharing.specs.RemainderSizes.{largest_remainder_lawful}
use Rattle.sharing.specs.RunningSizes.{running_lawful}
use Rattle.tables.specs.declared.refusal.Refusal.{Refusal}
use Rattle.tables.specs.declared.refusal.Reason.{Reason}
use Rattle.tables.specs.Refusals.{first_fit, answer_by, state_after}
use Rattle.records.specs.Calls.{reasons, place_of, refusal, made_by}
use Rattle.charges.specs.declared.amounts.HourAmounts.{HourAmounts}
use Rattle.statement.specs.declared.statement.Statement.{Statement}
use Rattle.statement.specs.Statements.{with_records, with_run, settle_reasons, settle_answer}
use Rattle.statement.specs.Histories.{History, call, settle}
use Rattle.blocks.specs.declared.rule.Rule.{Rule}
use Rattle.blocks.specs.declared.rule.Rule.TheVariants.{LargestRemainder, Running}
use Rattle.blocks.specs.declared.order.Order.{Order}
use Rattle.blocks.specs.declared.order.Order.TheVariants.{Call as CallOf, Settle as SettleBy}
use Rattle.reader.specs.declared.lines.LineReader.{LineReader}
use Rattle.blocks.specs.Lines.{Said, read_line}
use Rattle.reader.specs.Carrying.{shares_by, refusal_in, Carried, Outcome, outcome_of, Obeyed}
use Rattle.reader.specs.Inputs.{lines_of, starting, LinesTaken, InputTaken}
use Rattle.reader.specs.Promised.{accepted_orders, AllCarried}

shares_lawful : (rule : Rule) → Lawful (shares_by rule)
shares_lawful LargestRemainder = largest_remainder_lawful
shares_lawful Running = running_lawful

history_carried : (order : Order) (before after : Statement) (refused : Option Refusal) → Carried order before after refused
    → History before → History after
history_carried (CallOf c) before after refused carried history = subst History (sym carried.0) (call c history)
history_carried (SettleBy rule) before after refused (answer, settled, is) history = settle (shares_lawful rule) settled history

pub history_obeyed : (said : Said) (before after : Statement) (outcome : Outcome) → Obeyed said before after outcome → History before
    → History after
history_obeyed (Err r) before after outcome (same, is) history = subst History (sym same) history
history_obeyed (Ok None) before after outcome (same, is) history = subst History (sym same) history
history_obeyed (Ok (Some order)) before after outcome (refused, carried, is) history =
    history_carried order before after refused carried history

history_of_lines : (lines : List (List ℕ)) (before after : LineReader) (outcomes : List Outcome) → LinesTaken lines before after outcomes
    → History before.book → History after.book
history_of_lines [] before after outcomes (same, none) history = subst (λ r. History r.book) (sym same) history
history_of_lines (line ∷ lines) before after outcomes (next, outcome, others, taken, rest, is) history =
    history_of_lines lines next after others rest (history_obeyed (read_line line before.mode).1 before.book next.book outcome taken.1 history)

-- refused, nothing changes
call_refused : (o : Option Reason) (f : Reason → Refusal) (made before : Statement) (r : Refusal)
    → Some r ≡ refusal_in (answer_by (option_map f o)) → state_after o made before ≡ before
call_refused None f made before r refused = absurd (cc)
call_refused (Some reason) f made before r refused = refl

settle_refused : (o : Option Refusal) (a : HourAmounts) (made before : Statement) (r : Refusal)
    → Some r ≡ refusal_in (settle_answer o a before) → state_after o made before ≡ before
settle_refused None a made before r refused = absurd (cc)
settle_refused (Some reason) a made before r refused = refl

pub same_where_refused : (order : Order) (before after : Statement) (r : Refusal) → Carried order before after (Some r) → after ≡ before
same_where_refused (CallOf c) before after r (is, refused) =
    is ∙ call_refused (first_fit (reasons c before.records)) (λ reason. refusal reason (place_of c)) (with_records (made_by c before.records) before) before r refused
same_where_refused (SettleBy rule) before after r (answer, settled, refused) =
    let a = settled.amounts in
    let o = first_fit (settle_reasons (shares_by rule) a before) in
    settled.statement ∙ settle_refused o a (with_run (shares_by rule) a before) before r (rw (← settled.answer) refused)

module _ (before next after : Statement) (outcomes : List Outcome) (rest : AllCarried (accepted_orders outcomes) next after) where
  carried_none : next ≡ before → AllCarried (accepted_orders outcomes) before after
  carried_none same = subst (λ b. AllCarried (accepted_orders outcomes) b after) same rest

  carried_order : (order : Order) (refused : Option Refusal) → Carried order before next refused
      → AllCarried (accepted_orders (outcome_of order refused ∷ outcomes)) before after
  carried_order order None carried = (next, carried, rest)
  carried_order order (Some r) carried = carried_none (same_where_refused order before next r carried)

  carried_said : (said : Said) (outcome : Outcome) → Obeyed said before next outcome
      → AllCarried (accepted_orders (outcome ∷ outcomes)) before after
  carried_said (Err r) outcome (same, is) =
      subst (λ o. AllCarried (accepted_orders (o ∷ outcomes)) before after) (sym is) (carried_none same)
  carried_said (Ok None) outcome (same, is) =
      subst (λ o. AllCarried (accepted_orders (o ∷ outcomes)) before after) (sym is) (carried_none same)
  carried_said (Ok (Some order)) outcome (refused, carried, is) =
      subst (λ o. AllCarried (accepted_orders (o ∷ outcomes)) before after) (sym is) (carried_order order refused carried)

carried_by_lines : (lines : List (List ℕ)) (before after : LineReader) (outcomes : List Outcome) → LinesTaken lines before after outcomes
    → AllCarried (accepted_orders outcomes) before.book after.book
carried_by_lines [] before after outcomes (same, none) = rw none (ap (λ r. r.book) same)
carried_by_lines (line ∷ lines) before after outcomes (next, outcome, others, taken, rest, is) =
    rw is (carried_said before.book next.book after.book others (carried_by_lines lines next after others rest) (read_line line before.mode).1 outcome taken.1)

pub history_of_input : (input : List ℕ) (before after : Statement) (outcomes : List Outcome) → InputTaken input before after outcomes
    → History before → History after
history_of_input input before after outcomes (end, taken, is) history =
    subst History is (history_of_lines (lines_of input) (starting before) end outcomes taken history)

pub carried_by_input : (input : List ℕ) (before after : Statement) (outcomes : List Outcome) → InputTaken input before after outcomes
    → AllCarried (accepted_orders outcomes) before after
carried_by_input input before after outcomes (end, taken, is) =
    subst (AllCarried (accepted_orders outcomes) before) is (carried_by_lines (lines_of input) (starting before) end outcomes taken)
