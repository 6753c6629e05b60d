use Rattle.std.proofs.Common.{◌≡◌, ◌≤◌, ◌+◌, ◌*◌, take, ◌+ℤ◌, unsigned_abs}
use Rattle.sharing.specs.Laws.{total}
use Rattle.rows.specs.Ranges.{most_given}
use Rattle.charges.specs.Ranges.{most_imbalance}
use Rattle.charges.specs.Amounts.{cents}
use Rattle.charges.proofs.offset.offset_pool.Given as goal

abbrev pub invariant-loop-i : goal.invariant-loop-i
invariant-loop-i l = record {
  value : l.charged.0 ≡ total (cents (take l.i l.cc_6470)) +ℤ total (cents (take l.i l.cc_6474)) +ℤ total (cents (take l.i l.cc_6475));
  within : unsigned_abs l.charged.0 ≤ l.i * (most_imbalance + 2 * most_given);
}
