use Rattle.std.proofs.Common.{subst}
use Rattle.std.proofs.lemmas.List.{take_all}
use Rattle.std.specs.Io.KnownBytes.{Appends}
use Rattle.reader.specs.Printing.{listing_text}
use Rattle.reader.proofs.Writing.{wrote_on, listing_more}
use Rattle.reader.proofs.listing.write_listing.Goals as goal

pub loop-line-preserved : goal.loop-line-preserved
loop-line-preserved g c =
    wrote_on _ _ _ _ _ _ c.loop-line.invariant c.in_ok-writeln.ensures.bytes (listing_more c.args.lines.now c.loop-line.line-index _ c.loop-line-test.true)

pub returns : goal.returns
returns g c =
    subst (λ lines. Appends (g.W.Write.contents c.args.out.now) (g.W.Write.contents c.loop-line.out) (listing_text lines))
    (take_all c.loop-line.line-index c.args.lines.now c.loop-line-test.false) c.loop-line.invariant
