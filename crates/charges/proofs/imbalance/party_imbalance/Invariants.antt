use Rattle.std.proofs.Common.{◌≡◌, ◌≤◌, ◌+◌, ◌*◌, map, length, take, ◌+ℤ◌, unsigned_abs}
use Rattle.sharing.specs.Laws.{total}
use Rattle.rows.specs.declared.given.GivenCode.TheVariants.{PassThrough}
use Rattle.rows.specs.Ranges.{most_given}
use Rattle.formulas.specs.Ranges.{most_charge}
use Rattle.rows.specs.Posted.{with_table}
use Rattle.charges.specs.Amounts.{resource_charge, owned_by, given_cents}
use Rattle.charges.proofs.imbalance.party_imbalance.Given as goal

abbrev pub invariant-loop-resource : goal.invariant-loop-resource
invariant-loop-resource l = record {
  value : l.cents.0 ≡ total (map (resource_charge l.interval.index) (owned_by l.party.id (take (length l.yielded) (with_table l.table l.resources)))) +ℤ given_cents PassThrough l.interval.index l.party;
  within : unsigned_abs l.cents.0 ≤ most_given + length l.yielded * most_charge;
}
