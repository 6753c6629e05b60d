-- How large the amounts of an interval can be, where the tables are no fuller than their full numbers. Assumes nothing.
use Rattle.std.proofs.Common.{◌≤◌, ◌==◌, ◌*◌, ℕ, List, map, length, ℤ, unsigned_abs, get_or, arith}
use Rattle.std.proofs.lemmas.Int.{ints}
use Rattle.std.proofs.lemmas.List.{length-map}
use Rattle.std.proofs.lemmas.List.Elements.{All-map}
use Rattle.std.proofs.lemmas.List.Sums.{length-filter, count_by-le-length}
use Rattle.sharing.specs.Laws.{total}
use Rattle.sharing.proofs.Totals.{total_within}
use Rattle.rows.specs.declared.area.Area.{Area}
use Rattle.rows.specs.declared.party.Party.{Party}
use Rattle.rows.specs.declared.resource.Resource.{Resource}
use Rattle.rows.specs.declared.given.GivenCode.{GivenCode}
use Rattle.rows.specs.declared.given.GivenCode.TheVariants.{PassThrough, Cc6474, Cc6475}
use Rattle.rows.specs.Ranges.{most_given}
use Rattle.rows.specs.Posted.{deemed_at, given_at}
use Rattle.formulas.specs.Ranges.{most_charge}
use Rattle.formulas.specs.Surcharge.{area_pool}
use Rattle.formulas.proofs.Within.{imbalance_charge_within, area_pool_within}
use Rattle.records.specs.Ranges.{most_areas, most_parties, most_resources}
use Rattle.charges.specs.Ranges.{most_imbalance, most_amount}
use Rattle.charges.specs.Amounts.{resource_charge, owned_by, given_cents, amount_6470, offset_by, offset_pool, balance}

-- what a party is charged under the three codes that the offset gives back
abbrev most_offset_by : ℕ
most_offset_by = 2563000000000

-- as many parts as a table has rows
total_of_rows : {X : Type 0} (f : X → ℤ) (xs : List X) (m : ℕ) → ((x : X) → unsigned_abs (f x) ≤ m) → unsigned_abs (total (map f xs)) ≤ length xs * m
total_of_rows f xs m each =
    let within = total_within m (map f xs) (All-map (λ z. unsigned_abs z ≤ m) f xs (λ i d h. each (get_or xs i d))) in
    rw (length-map xs f) at within

pub given_within : (code : GivenCode) (index : ℕ) (p : Party) → unsigned_abs (given_cents code index p) ≤ most_given
given_within code index p = (given_at code index p).within

module _ (resources : List Resource) (few : length resources ≤ most_resources) (index : ℕ) where
  pub imbalance_within : (p : Party) → unsigned_abs (amount_6470 resources index p) ≤ most_imbalance
  unfolding amount_6470
  imbalance_within p =
      let own : List Resource = owned_by p.id resources in
      let count : length own ≤ most_resources = omega (arith, length-filter (λ (r : Resource). r.owner == p.id) resources, count_by-le-length (λ (r : Resource). r.owner == p.id) resources) in
      let charges = total_of_rows (resource_charge index) own most_charge (λ r. imbalance_charge_within index (deemed_at index r).units.0 r (deemed_at index r).within) in
      let given = given_within PassThrough index p in
      omega (arith, ints)

  offset_by_within : (p : Party) → unsigned_abs (offset_by resources index p) ≤ most_offset_by
  offset_by_within p = omega (arith, ints, imbalance_within p, given_within Cc6474 index p, given_within Cc6475 index p)

  pub offset_within : (parties : List Party) → length parties ≤ most_parties → unsigned_abs (offset_pool resources parties index) ≤ most_amount
  unfolding offset_pool
  offset_within parties few' = omega (arith, ints, total_of_rows (offset_by resources index) parties most_offset_by offset_by_within)

pub balance_within : (areas : List Area) (index : ℕ) → length areas ≤ most_areas → unsigned_abs (balance areas index) ≤ most_amount
unfolding balance
balance_within areas index few = omega (arith, ints, total_of_rows (area_pool index) areas most_charge (area_pool_within index))
