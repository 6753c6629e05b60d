use Rattle.std.proofs.Common.{length}
use Rattle.words.proofs.Numerals.{ReadSoFar}
use Rattle.words.proofs.numbers.natural.Given as goal

abbrev pub invariant-loop-rest : goal.invariant-loop-rest
invariant-loop-rest l = ReadSoFar l.text l.rest l.number

abbrev pub decreases-loop-rest : goal.decreases-loop-rest
decreases-loop-rest l = length l.rest
