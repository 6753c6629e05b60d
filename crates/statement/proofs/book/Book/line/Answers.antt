use Rattle.std.proofs.Common.{◌≡◌, ◌-◌, length, pos, unsigned_abs, to_z, of_z, w64, ap, arith}
use Rattle.std.proofs.lemmas.Int.{ints}
use Rattle.std.proofs.lemmas.Option.{slice_get-get_or}
use Rattle.std.proofs.lemmas.Bool.Decides.{nat_tests}
use Rattle.tables.specs.Ranges.{inside}
use Rattle.statement.proofs.Reading.{no_line}
use Rattle.statement.proofs.book.Book.line.Goals as goal
use Rattle.statement.proofs.book.Book.line.Goals.{then-place-lt1-via-then-place-lt1, then-place-lt1-via-else-place-lt1+then-place-lines}

pub returns-then-place-lt1-clause-line : goal.returns-then-place-lt1-clause-line
returns-then-place-lt1-clause-line c =
    let lines = c.args.self.now.lines.rows in
    let long = ap length c.lines-lines.ensures.lines in
    elim c.then-place-lt1.branch [
      | then-place-lt1-via-then-place-lt1 w ↦ (no_line c.args.place lines (λ from to. grind (arith, ints, nat_tests)), c.refused.ensures)
      | then-place-lt1-via-else-place-lt1+then-place-lines w ↦ (no_line c.args.place lines (λ from to. grind (arith, ints, nat_tests)), c.refused.ensures)
    ]

pub returns-clause-line : goal.returns-clause-line
returns-clause-line c =
    let rows = c.lines-lines.ensures.lines in
    let long = ap length rows in
    let cast : unsigned_abs (to_z w64 (of_z w64 c.args.place)) ≡ unsigned_abs c.args.place = grind (arith, ints) in (
      inside (pos 1) (pos (length c.args.self.now.lines.rows)) c.args.place (grind (arith, ints, nat_tests)) (grind (arith, ints, nat_tests)),
      rw (cast, rows) (slice_get-get_or c.args.self.now.lines.rows (unsigned_abs c.args.place - 1) _ (grind (arith, ints))),
    )
