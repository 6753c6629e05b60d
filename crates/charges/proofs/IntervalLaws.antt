-- What holds of the amounts of an interval, whatever the rule. It uses of sharing that a lawful rule gives out a pool in full,
-- each part near its exact one and none larger than the pool; of the records that they are `Sound`; of the formulas how large
-- their charges can be; and that no fault of the interval fits. Assumes nothing.
use Rattle.std.proofs.Common.{◌≡◌, ◌≤◌, ◌<◌, ℕ, List, map, length, None, ℤ, pos, ◌+ℤ◌, sym, ap, ◌∙◌, unsigned_abs, le_trans, arith}
use mathlib.Core.List.{map-map}
use Rattle.std.proofs.lemmas.Int.{ints}
use Rattle.std.proofs.lemmas.List.{length-map}
use Rattle.sharing.specs.Limits.{most_pool}
use Rattle.sharing.specs.Laws.{total, Lawful}
use Rattle.tables.specs.View.{Table}
use Rattle.tables.specs.Keyed.{Keyed}
use Rattle.tables.specs.Refusals.{first_fit}
use Rattle.deemed.specs.Ranges.{hour_length}
use Rattle.rows.specs.declared.area.Area.{Area}
use Rattle.rows.specs.declared.party.Party.{Party}
use Rattle.rows.specs.declared.resource.Resource.{Resource}
use Rattle.rows.specs.declared.given.GivenCode.TheVariants.{Cc6474, Cc6475}
use Rattle.formulas.specs.Surcharge.{area_pool}
use Rattle.records.specs.View.{Hour}
use Rattle.records.specs.Ranges.{most_parties, most_resources}
use Rattle.records.specs.Sound.{Sound}
use Rattle.charges.specs.declared.amounts.IntervalAmounts.{IntervalAmounts}
use Rattle.charges.specs.Columns.{cents_in}
use Rattle.charges.specs.Ranges.{most_amount}
use Rattle.charges.specs.Energies.{with_new_energies}
use Rattle.charges.specs.Amounts.{amount_6470, amount_6474, amount_6475, offset_pool, balance, column, cents}
use Rattle.charges.specs.Faults.{interval_faults}
use Rattle.charges.specs.Charged.{IntervalCharged, IntervalLaws}
use Rattle.charges.proofs.Totals.{total_same, total_of_sums, total_of_column}
use Rattle.charges.proofs.Bounded.{column_bounded}
use Rattle.charges.proofs.ByArea.{paid_by_area, bounded_by_area}
use Rattle.charges.proofs.Sizes.{given_within, imbalance_within, offset_within, balance_within}
use Rattle.charges.proofs.Unrefused.{all_shareable}
use Rattle.charges.proofs.Outside.{no_offset}
use Rattle.charges.proofs.SurchargeParts.{surcharges_paid, surcharges_near, surcharges_small}
use Rattle.charges.proofs.OffsetParts.{offset_paid, offset_near, offset_small}

-- no table is fuller than its full number
few : {T : Type 0} {key : T → ℕ} {full : ℕ} (t : Table T) → Keyed key full t → length t.rows ≤ full
few t keyed = le_trans keyed.within_room keyed.bound

-- account 0 has the other side of the surcharges
balanced : (areas : List Area) (index : ℕ) → total (map (area_pool index) areas) +ℤ balance areas index ≡ pos 0
unfolding balance
balanced areas index = omega (arith, ints)

-- the offset is the other side of three columns
offset_is : (resources : List Resource) (parties : List Party) (index : ℕ)
    → total (cents (column (amount_6470 resources index) parties)) +ℤ total (cents (column (amount_6474 index) parties)) +ℤ total (cents (column (amount_6475 index) parties)) +ℤ offset_pool resources parties index ≡ pos 0
unfolding offset_pool
offset_is resources parties index =
    let one = amount_6470 resources index in
    let two = amount_6474 index in
    let three = amount_6475 index in
    omega (
      arith,
      ints,
      total_of_column one parties,
      total_of_column two parties,
      total_of_column three parties,
      total_of_sums (λ p. one p +ℤ two p) three parties,
      total_of_sums one two parties,
    )

-- with their new deemed energies resources have the owners that they had
pub same_owners : (shares : ℤ → List ℕ → List ℤ) (resources : List Resource) → map (λ r. r.owner) (map (with_new_energies shares) resources) ≡ map (λ r. r.owner) resources
same_owners shares resources = simp map-map

pub interval_laws : {shares : ℤ → List ℕ → List ℤ} → Lawful shares → (h : Hour) → Sound h → (resources : List Resource) → map (λ r. r.owner) resources ≡ map (λ r. r.owner) h.resources.rows
    → (index : ℕ) → index < hour_length → (x : IntervalAmounts) → first_fit (interval_faults h.areas.rows h.parties.rows resources index) ≡ None
    → IntervalCharged shares h.areas.rows h.parties.rows resources index x → IntervalLaws h.areas.rows h.parties.rows resources index x
interval_laws lawful h sound resources same index inside x unrefused charged =
    let areas : List Area = h.areas.rows in
    let parties : List Party = h.parties.rows in
    let pool : ℤ = offset_pool resources parties index in
    let long : length resources ≡ length h.resources.rows = sym (length-map resources (λ r. r.owner)) ∙ ap length same ∙ length-map h.resources.rows (λ r. r.owner) in
    let few_parties : length parties ≤ most_parties = few h.parties sound.parties in
    let few_resources : length resources ≤ most_resources = rw long (few h.resources sound.resources) in
    let pool_within : unsigned_abs pool ≤ most_amount = offset_within resources few_resources index parties few_parties in
    let small : unsigned_abs pool ≤ most_pool = omega arith in
    let shareable = all_shareable areas parties resources index unrefused in
    let surcharges = surcharges_paid lawful areas parties few_parties index x.cc_6476 charged.cc_6476 shareable.1 in
    let all_surcharges : total (cents x.cc_6476) ≡ total (map (area_pool index) areas) =
    paid_by_area areas parties x.cc_6476 sound.homes charged.cc_6476_rest sound.areas.distinct ∙ total_same (λ a. total (cents_in a.id parties x.cc_6476)) (area_pool index) areas surcharges in
    let offset : total (cents x.cc_6477) ≡ pool =
    paid_by_area areas parties x.cc_6477 sound.homes charged.cc_6477_rest sound.areas.distinct
    ∙ offset_paid lawful areas parties few_parties index pool small x.cc_6477 charged.cc_6477 shareable.0 sound.one_ciso (λ none. no_offset h sound none index inside resources same) in
    record {
      surcharges_balance = rw (all_surcharges, charged.balance_is) (balanced areas index);
      others_balance = rw (offset, charged.cc_6470, charged.cc_6474, charged.cc_6475) (offset_is resources parties index);
      surcharges_paid = surcharges;
      offset_paid = offset;
      surcharges_near = surcharges_near lawful areas parties few_parties index x.cc_6476 charged.cc_6476;
      offset_near = offset_near lawful areas parties few_parties index pool small x.cc_6477 charged.cc_6477;
      bounded_6470 = rw charged.cc_6470 (column_bounded most_amount (amount_6470 resources index) parties (λ p. le_trans (imbalance_within resources few_resources index p) (omega arith)));
      bounded_6474 = rw charged.cc_6474 (column_bounded most_amount (amount_6474 index) parties (λ p. le_trans (given_within Cc6474 index p) (omega arith)));
      bounded_6475 = rw charged.cc_6475 (column_bounded most_amount (amount_6475 index) parties (λ p. le_trans (given_within Cc6475 index p) (omega arith)));
      bounded_6476 = bounded_by_area areas parties x.cc_6476 sound.homes charged.cc_6476_rest most_amount (surcharges_small lawful areas parties few_parties index x.cc_6476 charged.cc_6476 most_amount (omega arith));
      bounded_6477 = bounded_by_area areas parties x.cc_6477 sound.homes charged.cc_6477_rest most_amount (offset_small lawful areas parties few_parties index pool small x.cc_6477 charged.cc_6477 most_amount pool_within);
      bounded_balance = rw charged.balance_is (balance_within areas index (few h.areas sound.areas));
    }
