-- A column in which the parties of each area share its surcharge by a lawful rule. Assumes nothing.
use Rattle.std.proofs.Common.{◌≡◌, ◌≤◌, ℕ, List, length, ℤ, sum, unsigned_abs, get_or, le_trans, arith}
use Rattle.std.specs.List.{All}
use Rattle.std.proofs.lemmas.List.Elements.{All-weaker}
use Rattle.sharing.specs.Limits.{Shareable, most_weights}
use Rattle.sharing.specs.Laws.{total, Apportioned, Lawful}
use Rattle.sharing.proofs.Parts.{shares_within}
use Rattle.deemed.specs.Pools.{NearPart}
use Rattle.rows.specs.declared.figures.Cents.{Cents}
use Rattle.rows.specs.declared.area.Area.{Area}
use Rattle.rows.specs.declared.party.Party.{Party}
use Rattle.formulas.specs.Ranges.{most_charge}
use Rattle.formulas.specs.Surcharge.{area_pool}
use Rattle.formulas.proofs.Within.{area_pool_within}
use Rattle.charges.specs.Columns.{entries_in, cents_in, weight, weights}
use Rattle.charges.proofs.Limits.{within_limits}
use Rattle.charges.proofs.SharedParts.{near_in_area, within_each}

module _ {shares : ℤ → List ℕ → List ℤ} (lawful : Lawful shares) (areas : List Area) (parties : List Party) (few : length parties ≤ most_weights) (index : ℕ) (column : List Cents)
    (shared : All (λ a. cents_in a.id parties column ≡ shares (area_pool index a) (weights index a parties)) areas) where
  apportioned : All (λ a. Apportioned (area_pool index a) (weights index a parties) (cents_in a.id parties column)) areas
  apportioned i d h =
      let a : Area = get_or areas i d in
      let pool : ℤ = area_pool index a in
      rw (shared i d h) (lawful pool (weights index a parties) (within_limits index pool a parties (omega (arith, area_pool_within index a)) few))

  pub surcharges_paid : All (λ a. Shareable (area_pool index a) (weights index a parties)) areas → All (λ a. total (cents_in a.id parties column) ≡ area_pool index a) areas
  surcharges_paid shareable = λ i d h. (apportioned i d h).in_full (shareable i d h)

  pub surcharges_near : All (λ a. All (λ e. NearPart (area_pool index a) (sum (weights index a parties)) (weight a.kind index e.0) e.1.0) (entries_in a.id parties column)) areas
  surcharges_near = λ i d h. let a : Area = get_or areas i d in near_in_area index (area_pool index a) a parties column (apportioned i d h)

  pub surcharges_small : (m : ℕ) → most_charge ≤ m → All (λ a. All (λ e. unsigned_abs e.1.0 ≤ m) (entries_in a.id parties column)) areas
  surcharges_small m le = λ i d h.
      let a : Area = get_or areas i d in
      let es : List (Party × Cents) = entries_in a.id parties column in
      let pool : ℤ = area_pool index a in
      All-weaker (λ e. unsigned_abs e.1.0 ≤ unsigned_abs pool) (λ e. unsigned_abs e.1.0 ≤ m) (λ e small. le_trans small (le_trans (area_pool_within index a) le)) es
      (within_each pool es (shares_within pool (weights index a parties) (cents_in a.id parties column) (apportioned i d h)))
