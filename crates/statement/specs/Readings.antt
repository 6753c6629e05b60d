-- What the reading calls of a statement answer. Assumes nothing.
use Rattle.std.specs.Prelude.{◌≡◌, ◌-◌, Bool, true, false, List, length, Some, Result, Ok, Err, ℤ, pos, slice_get, unsigned_abs}
use Rattle.tables.specs.Ranges.{in_range}
use Rattle.tables.specs.declared.refusal.Reason.TheVariants.{OutsideSpan}
use Rattle.tables.specs.declared.refusal.Refusal.{Refusal}
use Rattle.statement.specs.declared.line.Line.{Line}
use Rattle.statement.specs.Statements.{refusal}

-- whether there is a line at a place, from 1
abbrev pub has_line : ℤ → List Line → Bool
has_line place lines = in_range (pos 1) (pos (length lines)) place

-- that line is answered, and a refusal without a place where there is none
abbrev pub LineRead : ℤ → List Line → Result Line Refusal → Type 0
LineRead place lines (Ok line) = (has_line place lines ≡ true) × (slice_get lines (unsigned_abs place - 1) ≡ Some line)
LineRead place lines (Err r) = (has_line place lines ≡ false) × (r ≡ refusal OutsideSpan)
