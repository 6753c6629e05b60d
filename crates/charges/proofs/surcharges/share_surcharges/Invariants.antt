use Rattle.formulas.specs.Surcharge.{area_pool}
use Rattle.charges.specs.Columns.{weights}
use Rattle.charges.specs.Faults.{surcharge_fault}
use Rattle.charges.proofs.AreasSoFar.{SharedSoFar}
use Rattle.charges.proofs.surcharges.share_surcharges.Given as goal

abbrev pub invariant-loop-area : goal.invariant-loop-area
invariant-loop-area g l =
    SharedSoFar (surcharge_fault l.parties l.interval.index) (λ a. g.R.SharingRule.shares l.rule (area_pool l.interval.index a) (weights l.interval.index a l.parties)) l.areas l.parties l.initial.column l.area-index l.column
