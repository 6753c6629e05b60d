-- The header and a line for each line so far are written.
use Rattle.std.proofs.Common.{take}
use Rattle.std.specs.Io.KnownBytes.{Appends}
use Rattle.reader.specs.Printing.{listing_text}
use Rattle.reader.proofs.listing.write_listing.Given as goal

abbrev pub invariant-loop-line : goal.invariant-loop-line
invariant-loop-line g l = Appends (g.W.Write.contents l.fn.out) (g.W.Write.contents l.out) (listing_text (take l.line-index l.lines))
