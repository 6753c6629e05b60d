use Rattle.blocks.proofs.Heads.{HeadsSoFar}
use Rattle.blocks.proofs.heading.Heading.of.Given as goal

abbrev pub invariant-loop-name : goal.invariant-loop-name
invariant-loop-name l = HeadsSoFar l.line l.block l.columns.items l.name-iterator
