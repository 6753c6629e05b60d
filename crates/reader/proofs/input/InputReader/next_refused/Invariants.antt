use Rattle.std.proofs.Common.{[], length}
use Rattle.reader.specs.Feeding.{ReadOn}
use Rattle.reader.proofs.input.InputReader.next_refused.Given as goal

abbrev pub invariant-loop-after : goal.invariant-loop-after
invariant-loop-after l = ReadOn l.fn.bytes l.rest l.fn.self l.self []

abbrev pub decreases-loop-after : goal.decreases-loop-after
decreases-loop-after l = length l.rest
