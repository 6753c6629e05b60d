-- A statement: the records, the lines, the number of runs, and whether it stands settled. What calls make of it, and what they
-- answer. Assumes nothing.
use Rattle.std.specs.Prelude.{◌≡◌, ℕ, ◌+◌, ◌==◌, min, true, false, List, [], ◌∷◌, ◌++◌, map, length, Option, Some, None, Result, Ok, Err, ℤ, pos}
use Rattle.tables.specs.Tables as tables
use Rattle.tables.specs.declared.refusal.Reason.{Reason}
use Rattle.tables.specs.declared.refusal.Reason.TheVariants.{Full, LinesFull}
use Rattle.tables.specs.declared.refusal.Part.TheVariants.{Statement as InStatement}
use Rattle.tables.specs.declared.refusal.Refusal.{Refusal}
use Rattle.tables.specs.Refusals.{Fit, ◌when◌, ◌unless◌, first_fit, reason_as, state_after}
use Rattle.tables.specs.Tables.{has_room_for, with_rows}
use Rattle.records.specs.declared.call.Call.{Call}
use Rattle.records.specs.View.{Hour}
use Rattle.records.specs.Hours as hours
use Rattle.records.specs.Hours.{party_id}
use Rattle.records.specs.Calls.{at, reasons, made_by}
use Rattle.charges.specs.declared.amounts.HourAmounts.{HourAmounts}
use Rattle.charges.specs.Faults.{hour_faults, refusal_of}
use Rattle.charges.specs.Charged.{HourCharged, renewed}
use Rattle.statement.specs.declared.line.Line.{Line}
use Rattle.statement.specs.declared.run.Run.{Run}
use Rattle.statement.specs.declared.statement.Statement.{Statement}
use Rattle.statement.specs.Ranges.{most_lines, most_runs}
use Rattle.statement.specs.Lines.{new_lines}

-- nothing entered, no line, no run, and not settled; its tables have so many rows, and no more than the full numbers
abbrev pub opened : ℕ → ℕ → ℕ → ℕ → Statement
opened areas parties resources lines = record {
  records = hours.opened areas parties resources;
  lines = tables.new_table (min lines most_lines);
  runs = 0;
  settled = false;
}

-- with other records, which are yet to be settled
abbrev pub with_records : Hour → Statement → Statement
with_records records b = record b { records = records; settled = false }

-- after an entering or posting call: with what it makes of the records where it is accepted, and else as it was
abbrev pub taken : Call → Statement → Statement
taken call b = state_after (first_fit (reasons call b.records)) (with_records (made_by call b.records) b) b

-- the parties' ids, in the order entered
abbrev pub ids : Statement → List ℕ
ids b = map party_id b.records.parties.rows

-- the lines that a settle to amounts adds
abbrev pub added : HourAmounts → Statement → List Line
added a b = new_lines (b.runs + 1) b.lines.rows (ids b) a

-- the records with the new deemed energies
abbrev pub with_renewed : (ℤ → List ℕ → List ℤ) → Hour → Hour
with_renewed shares h = record h { resources = record h.resources { rows = renewed shares h } }

-- after a settle to amounts
abbrev pub with_run : (ℤ → List ℕ → List ℤ) → HourAmounts → Statement → Statement
with_run shares a b = record {
  records = with_renewed shares b.records;
  lines = with_rows b.lines (added a b);
  runs = b.runs + 1;
  settled = true;
}

-- a refusal of this part, without a place
abbrev pub refusal : Reason → Refusal
refusal reason = record { reason = reason; part = InStatement; place = at (pos 0) (pos 0) }

-- why amounts are not worked out: no run is left; a pool cannot be shared
abbrev pub reasons_before_work : (ℤ → List ℕ → List ℤ) → Statement → List (Fit Refusal)
reasons_before_work shares b =
    refusal Full when (b.runs == most_runs)
    ∷ map (reason_as refusal_of) (hour_faults shares b.records.areas.rows b.records.parties.rows b.records.resources.rows)

-- why a settle to amounts is refused, first fit first: or else there is no room for its lines
abbrev pub settle_reasons : (ℤ → List ℕ → List ℤ) → HourAmounts → Statement → List (Fit Refusal)
settle_reasons shares a b = reasons_before_work shares b ++ refusal LinesFull unless has_room_for (added a b) b.lines ∷ []

-- the answer: the run's number, and how many lines it adds
abbrev pub settle_answer : Option Refusal → HourAmounts → Statement → Result Run Refusal
settle_answer None a b = Ok (record { number = b.runs + 1; lines = length (added a b) })
settle_answer (Some r) a b = Err r

-- a settle by a rule that means `shares`
pub record Settled (shares : ℤ → List ℕ → List ℤ) (before after : Statement) (r : Result Run Refusal) : Type 0 where
  pub amounts : HourAmounts
  -- they are what the hour comes to by the rule, where it can be worked out
  pub charged : first_fit (reasons_before_work shares before) ≡ None → HourCharged shares before.records amounts
  pub answer : r ≡ settle_answer (first_fit (settle_reasons shares amounts before)) amounts before
  pub statement : after ≡ state_after (first_fit (settle_reasons shares amounts before)) (with_run shares amounts before) before
