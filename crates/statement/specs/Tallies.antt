-- The running totals that a book keeps beside its lines. Assumes nothing.
use Rattle.std.specs.Prelude.{◌≡◌, ℕ, ◌<◌, List}
use Rattle.deemed.specs.Ranges.{hour_length}
use Rattle.charges.specs.declared.amounts.IntervalAmounts.{IntervalAmounts}
use Rattle.charges.specs.declared.code.ChargeCode.{ChargeCode}
use Rattle.charges.specs.declared.code.ChargeCode.TheVariants.{Cc6476}
use Rattle.charges.specs.Codes.{column_under}
use Rattle.statement.specs.declared.line.Line.{Line}
use Rattle.statement.specs.declared.statement.Statement.{Statement}
use Rattle.statement.specs.Small.{at, AllSmall}
use Rattle.statement.specs.Lines.{billed, tally}
use Rattle.statement.specs.Statements.{ids}
use Rattle.statement.specs.Histories.{History}

-- amounts of an interval, by its place from 0, that are what has been billed
pub record Tallied (lines : List Line) (ids : List ℕ) (place : ℕ) (x : IntervalAmounts) : Type 0 where
  pub parties : (code : ChargeCode) → column_under code x ≡ tally (billed lines code place) ids
  pub balance : x.balance.0 ≡ billed lines Cc6476 place 0

-- what is true of every book: a history led to it, and its running totals are those of its lines
pub record Kept (b : Statement) (totals : List IntervalAmounts) : Type 0 where
  pub history : History b
  pub small : AllSmall totals
  pub tallied : (place : ℕ) → place < hour_length → Tallied b.lines.rows (ids b) place (at totals place)
