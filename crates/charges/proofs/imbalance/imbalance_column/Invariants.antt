use Rattle.std.proofs.Common.{◌≡◌, ◌≤◌, unsigned_abs}
use Rattle.std.specs.List.{All}
use Rattle.charges.specs.Ranges.{most_imbalance}
use Rattle.rows.specs.Posted.{with_table}
use Rattle.charges.specs.Amounts.{amount_6470, no_column}
use Rattle.charges.proofs.Filling.{filled}
use Rattle.charges.proofs.imbalance.imbalance_column.Given as goal

abbrev pub invariant-loop-i : goal.invariant-loop-i
invariant-loop-i l = record {
  value : l.column ≡ filled (λ p. record { 0 = amount_6470 (with_table l.table l.resources) l.interval.index p }) no_column l.parties l.i;
  within : All (λ c. unsigned_abs c.0 ≤ most_imbalance) l.column;
}
