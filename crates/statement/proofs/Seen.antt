-- A book, as contracts see it, keeps the promises. Assumes nothing.
use Rattle.std.proofs.Common.{◌≡◌, List, subst}
use Rattle.charges.specs.declared.amounts.IntervalAmounts.{IntervalAmounts}
use Rattle.statement.specs.declared.statement.Statement.{Statement}
use Rattle.statement.specs.Promises.{Promises}
use Rattle.statement.specs.Tallies.{Kept}
use Rattle.statement.proofs.Promised.{histories_keep_promises}

pub promises_kept : {b : Statement} {totals : List IntervalAmounts} → Kept b totals → Promises b
promises_kept {b} kept = histories_keep_promises b kept.history

pub promises_seen : {b seen : Statement} {totals : List IntervalAmounts} → Kept b totals → b ≡ seen → Promises seen
promises_seen kept is = subst Promises is (promises_kept kept)
