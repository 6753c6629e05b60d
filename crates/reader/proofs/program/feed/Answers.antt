use Rattle.std.proofs.Common.{[], ◌∷◌, ◌++◌, append-nil}
use Rattle.std.proofs.KnownBytes.{Appends-nil}
use Rattle.reader.proofs.Writing.{wrote_on, refusals_and_one}
use Rattle.reader.proofs.ReadingOn.{read_on_by_none, read_on_by_both, fed}
use Rattle.reader.proofs.program.feed.Goals as goal

pub loop-line-init : goal.loop-line-init
loop-line-init g c = ([], read_on_by_none c.args.bytes.now c.args.reader.now, Appends-nil (g.W.Write.contents c.args.out.now))

pub loop-line-preserved : goal.loop-line-preserved
loop-line-preserved g c =
    let (refused, read, written) = c.loop-line.invariant in (
      refused ++ c.in-Some.line ∷ [],
      read_on_by_both _ _ _ _ _ _ _ _ read c.in-Some.ensures.0,
      wrote_on _ _ (g.W.Write.contents c.writeln.new.self) _ _ _ written c.in_ok-writeln.ensures.bytes (refusals_and_one refused c.in-Some.line),
    )

pub returns : goal.returns
returns g c =
    let (refused, read, written) = c.loop-line.invariant in
    fed _ _ _ refused _ _ (rw append-nil at (read_on_by_both _ _ _ _ _ _ _ _ read c.in_default.ensures)) written
