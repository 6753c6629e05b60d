use Rattle.std.proofs.Common.{◌≡◌, ◌<◌, ℕ, length, None, get_or}
use Rattle.tables.specs.Refusals.{first_fit}
use Rattle.deemed.specs.Ranges.{hour_length}
use Rattle.charges.specs.Amounts.{no_amounts}
use Rattle.charges.specs.Faults.{interval_faults}
use Rattle.charges.specs.Charged.{IntervalCharged, renewed}
use Rattle.charges.proofs.Hours.{so_far}
use Rattle.charges.proofs.work.work_out.Given as goal

-- the intervals up to an index are worked out, and none of them has a fault
abbrev pub invariant-loop-index : goal.invariant-loop-index
invariant-loop-index g l =
    let areas = l.records.areas.rows in
    let parties = l.records.parties.rows in
    let resources = renewed (g.R.SharingRule.shares l.rule) l.records in
    (length l.intervals ≡ hour_length)
    × (first_fit (so_far (interval_faults areas parties resources) l.index) ≡ None)
    × ((k : ℕ) → k < l.index → IntervalCharged (g.R.SharingRule.shares l.rule) areas parties resources k (get_or l.intervals k no_amounts))
