-- What orders do to a statement. Assumes nothing.
use Rattle.std.specs.Prelude.{◌≡◌, ℕ, List, Option, Some, None, Result, Ok, Err, ℤ}
use Rattle.sharing.specs.LargestRemainder.{largest_remainder}
use Rattle.sharing.specs.Running.{running}
use Rattle.tables.specs.declared.refusal.Refusal.{Refusal}
use Rattle.records.specs.Calls.{answer_to}
use Rattle.statement.specs.declared.run.Run.{Run}
use Rattle.statement.specs.declared.statement.Statement.{Statement}
use Rattle.statement.specs.Statements.{taken, Settled}
use Rattle.blocks.specs.declared.rule.Rule.{Rule}
use Rattle.blocks.specs.declared.rule.Rule.TheVariants.{LargestRemainder, Running}
use Rattle.blocks.specs.declared.order.Order.{Order}
use Rattle.blocks.specs.declared.order.Order.TheVariants.{Call as CallOf, Settle as SettleBy}
use Rattle.blocks.specs.Lines.{Said}

-- how a rule shares
abbrev pub shares_by : Rule → ℤ → List ℕ → List ℤ
shares_by LargestRemainder = largest_remainder
shares_by Running = running

-- whether there is a refusal, and which
abbrev pub refusal_in : {X : Type 0} → Result X Refusal → Option Refusal
refusal_in (Ok x) = None
refusal_in (Err r) = Some r

-- An order on a statement, and why it is refused, if it is: a call as the statement takes it, and a settle by its rule.
abbrev pub Carried : Order → Statement → Statement → Option Refusal → Type 0
Carried (CallOf call) before after refused = (after ≡ taken call before) × (refused ≡ refusal_in (answer_to call before.records))
Carried (SettleBy rule) before after refused = (answer : Result Run Refusal) × Settled (shares_by rule) before after answer × (refused ≡ refusal_in answer)

-- the outcome of a line: nothing to do, an order that was accepted, or a refusal
abbrev pub Outcome : Type 0
Outcome = Said

abbrev pub outcome_of : Order → Option Refusal → Outcome
outcome_of order None = Ok (Some order)
outcome_of order (Some r) = Err r

-- what comes of what a line says: its order is carried out, and else nothing changes
abbrev pub Obeyed : Said → Statement → Statement → Outcome → Type 0
Obeyed (Err r) before after outcome = (after ≡ before) × (outcome ≡ Err r)
Obeyed (Ok None) before after outcome = (after ≡ before) × (outcome ≡ Ok None)
Obeyed (Ok (Some order)) before after outcome = (refused : Option Refusal) × Carried order before after refused × (outcome ≡ outcome_of order refused)
