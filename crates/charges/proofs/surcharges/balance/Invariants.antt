use Rattle.std.proofs.Common.{◌≡◌, ◌≤◌, ◌*◌, map, take, neg_ℤ, unsigned_abs}
use Rattle.sharing.specs.Laws.{total}
use Rattle.formulas.specs.Ranges.{most_charge}
use Rattle.formulas.specs.Surcharge.{area_pool}
use Rattle.charges.proofs.surcharges.balance.Given as goal

abbrev pub invariant-loop-area : goal.invariant-loop-area
invariant-loop-area l = record {
  value : l.balance.0 ≡ neg_ℤ (total (map (area_pool l.interval.index) (take l.area-index l.areas)));
  within : unsigned_abs l.balance.0 ≤ l.area-index * most_charge;
}
