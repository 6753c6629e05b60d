-- An input is read so far, to where the reader stands, and what is refused in it is printed.
use Rattle.std.proofs.Common.{List, ℕ}
use Rattle.std.specs.Io.KnownBytes.{Appends, Consumes}
use Rattle.reader.specs.Carrying.{Outcome}
use Rattle.reader.specs.Feeding.{Led}
use Rattle.reader.specs.Printing.{refused_after, refusals_text}
use Rattle.reader.specs.Promised.{full_book}
use Rattle.reader.proofs.program.print_input.Given as goal

abbrev pub invariant-loop : goal.invariant-loop
invariant-loop g l = (bytes : List ℕ) × (outcomes : List Outcome) × Led full_book bytes l.reader outcomes
    × Consumes (g.R.Read.remaining l.fn.input) (g.R.Read.remaining l.input) bytes
    × Appends (g.W.Write.contents l.fn.out) (g.W.Write.contents l.out) (refusals_text (refused_after 0 outcomes))
