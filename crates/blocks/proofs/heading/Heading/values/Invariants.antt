use Rattle.blocks.proofs.Readings.{ReadSoFar}
use Rattle.blocks.proofs.heading.Heading.values.Given as goal

abbrev pub invariant-loop-place : goal.invariant-loop-place
invariant-loop-place l = ReadSoFar l.self-inside.block l.self-inside.columns.items l.line l.place-iterator.rest.now l.words l.values
