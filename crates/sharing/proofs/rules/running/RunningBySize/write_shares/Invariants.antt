use Rattle.sharing.proofs.RunningSteps.{SoFar}
use Rattle.sharing.proofs.rules.running.RunningBySize.write_shares.Given as goal

abbrev pub invariant-loop-i : goal.invariant-loop-i
invariant-loop-i l =
    SoFar l.pool l.division.each l.division.rest l.weight-items l.at l.upto l.earned l.i
