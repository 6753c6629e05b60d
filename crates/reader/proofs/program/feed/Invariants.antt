-- Some bytes are read so far, and what is refused in them is printed.
use Rattle.std.proofs.Common.{List, length}
use Rattle.std.specs.Io.KnownBytes.{Appends}
use Rattle.reader.specs.declared.refused.RefusedLine.{RefusedLine}
use Rattle.reader.specs.Feeding.{ReadOn}
use Rattle.reader.specs.Printing.{refusals_text}
use Rattle.reader.proofs.program.feed.Given as goal

abbrev pub invariant-loop-line : goal.invariant-loop-line
invariant-loop-line g l = (refused : List RefusedLine) × ReadOn l.bytes l.rest l.fn.reader l.reader refused
    × Appends (g.W.Write.contents l.fn.out) (g.W.Write.contents l.out) (refusals_text refused)

abbrev pub decreases-loop-line : goal.decreases-loop-line
decreases-loop-line g l = length l.rest
