use Rattle.std.proofs.Common.{◌≡◌, ◌≤◌, unsigned_abs}
use Rattle.std.specs.List.{All}
use Rattle.rows.specs.Ranges.{most_given}
use Rattle.charges.specs.Amounts.{given_cents, no_column}
use Rattle.charges.proofs.Filling.{filled}
use Rattle.charges.proofs.given.given_column.Given as goal

abbrev pub invariant-loop-i : goal.invariant-loop-i
invariant-loop-i l = record {
  value : l.column ≡ filled (λ p. record { 0 = given_cents l.fn.code l.interval.index p }) no_column l.parties l.i;
  within : All (λ c. unsigned_abs c.0 ≤ most_given) l.column;
}
