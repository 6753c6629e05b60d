-- Where there is no line. Assumes nothing.
use Rattle.std.proofs.Common.{◌≡◌, false, List, length, ℤ, pos, ◌≤ℤ◌, ⊎_elim}
use Rattle.std.proofs.lemmas.Bool.{cases_Bool}
use Rattle.tables.specs.Ranges.{within}
use Rattle.statement.specs.declared.line.Line.{Line}
use Rattle.statement.specs.Readings.{has_line}

pub no_line : (place : ℤ) (lines : List Line) → (pos 1 ≤ℤ place → place ≤ℤ pos (length lines) → ⊥) → has_line place lines ≡ false
no_line place lines out =
    ⊎_elim (λ yes. let in' = within (pos 1) (pos (length lines)) place yes in absurd (out in'.0 in'.1)) (λ no. no) (cases_Bool (has_line place lines))
