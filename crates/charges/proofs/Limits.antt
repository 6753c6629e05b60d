-- The weights of an area's parties are inside the limits of sharing. Assumes nothing.
use Rattle.std.proofs.Common.{◌≤◌, ◌==◌, ℕ, List, length, ℤ, unsigned_abs, get_or, arith}
use Rattle.std.specs.List.{All}
use Rattle.std.proofs.lemmas.List.{length-map}
use Rattle.std.proofs.lemmas.List.Elements.{All-map}
use Rattle.std.proofs.lemmas.List.Sums.{sum_by-le, length-filter, count_by-le-length}
use Rattle.sharing.specs.Limits.{Within, most_pool, most_weights}
use Rattle.rows.specs.declared.kinds.AreaKind.{AreaKind}
use Rattle.rows.specs.declared.kinds.AreaKind.TheVariants.{Ciso, Weim}
use Rattle.rows.specs.declared.area.Area.{Area}
use Rattle.rows.specs.declared.party.Party.{Party}
use Rattle.rows.specs.Ranges.{most_energy}
use Rattle.rows.specs.Posted.{demand_at}
use Rattle.charges.specs.Columns.{parties_in, weight, weights}

weight_within : (kind : AreaKind) (index : ℕ) (p : Party) → weight kind index p ≤ most_energy
unfolding weight
weight_within Ciso index p = (demand_at index p).within
weight_within Weim index p = omega arith

pub within_limits : (index : ℕ) (pool : ℤ) (area : Area) (parties : List Party) → unsigned_abs pool ≤ most_pool → length parties ≤ most_weights → Within pool (weights index area parties)
within_limits index pool area parties small few =
    let ps : List Party = parties_in area.id parties in
    let ws : List ℕ = weights index area parties in
    let count : length ws ≤ most_weights = omega (arith, length-map ps (weight area.kind index), length-filter (λ (p : Party). p.area == area.id) parties, count_by-le-length (λ (p : Party). p.area == area.id) parties) in
    let each : All (λ w. w ≤ most_energy) ws = All-map (λ w. w ≤ most_energy) (weight area.kind index) ps (λ i p h. weight_within area.kind index (get_or ps i p)) in
    record {
      pool = small;
      count = count;
      each = λ i h. let le : get_or ws i 0 ≤ most_energy = each i 0 h in omega arith;
      total = omega (arith, sum_by-le (λ x. x) most_energy ws each);
    }
