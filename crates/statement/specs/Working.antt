-- The steps of a settle. Assumes nothing.
use Rattle.std.specs.Prelude.{◌≡◌, ℕ, ◌+◌, true, false, List, length, Some, None, ℤ, Result, Ok, Err}
use Rattle.tables.specs.Refusals.{first_fit}
use Rattle.tables.specs.Tables.{has_room_for, with_rows}
use Rattle.tables.specs.declared.refusal.Reason.TheVariants.{LinesFull}
use Rattle.tables.specs.declared.refusal.Refusal.{Refusal}
use Rattle.records.specs.Hours.{with_deemed}
use Rattle.charges.specs.declared.amounts.HourAmounts.{HourAmounts}
use Rattle.charges.specs.Charged.{HourCharged, HourLaws, renewed}
use Rattle.statement.specs.declared.line.Line.{Line}
use Rattle.statement.specs.declared.run.Run.{Run}
use Rattle.statement.specs.declared.statement.Statement.{Statement}
use Rattle.statement.specs.Statements.{refusal, reasons_before_work}

-- the amounts are worked out where nothing is in the way
abbrev pub HourWorkedOut : (ℤ → List ℕ → List ℤ) → Statement → Result HourAmounts Refusal → Type 0
HourWorkedOut shares b (Ok a) =
    (first_fit (reasons_before_work shares b) ≡ None) × HourCharged shares b.records a × HourLaws b.records (renewed shares b.records) a
HourWorkedOut shares b (Err r) = first_fit (reasons_before_work shares b) ≡ Some r

-- a run is added where there is room for its lines, and else the statement is as it was
abbrev pub RunBooked : HourAmounts → List Line → Statement → Statement → Result Run Refusal → Type 0
RunBooked a lines before after (Ok run) =
    (has_room_for lines before.lines ≡ true)
    × (run ≡ record { number = before.runs + 1; lines = length lines })
    × (after
    ≡ record {
      records = with_deemed a.deemed before.records;
      lines = with_rows before.lines lines;
      runs = before.runs + 1;
      settled = true;
    })
RunBooked a lines before after (Err r) = (has_room_for lines before.lines ≡ false) × (r ≡ refusal LinesFull) × (after ≡ before)
