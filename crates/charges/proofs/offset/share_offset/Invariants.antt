use Rattle.charges.specs.Faults.{offset_fault_of}
use Rattle.charges.specs.Charged.{offset_shares_of}
use Rattle.charges.proofs.AreasSoFar.{SharedSoFar}
use Rattle.charges.proofs.offset.share_offset.Given as goal

abbrev pub invariant-loop-area : goal.invariant-loop-area
invariant-loop-area g l =
    SharedSoFar (offset_fault_of l.pool.0 l.parties l.interval.index) (offset_shares_of (g.R.SharingRule.shares l.rule) l.pool.0 l.parties l.interval.index) l.areas l.parties l.initial.column l.area-index l.column
