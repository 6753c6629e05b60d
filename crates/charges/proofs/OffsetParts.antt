-- A column in which the parties of the CISO area share a pool of offset by a lawful rule. Assumes nothing.
use Rattle.std.proofs.Common.{◌≡◌, ◌≤◌, ◌∙◌, ℕ, Bool, true, false, cond, List, map, length, ℤ, pos, sum, unsigned_abs, get_or, refl, sym, ap, ⊎_elim, le_trans, arith}
use Rattle.std.specs.List.{All, count_by}
use Rattle.std.proofs.lemmas.Bool.{cases_Bool, cases_lt}
use Rattle.std.proofs.lemmas.List.Elements.{All-map, All-weaker}
use Rattle.sharing.specs.Limits.{Shareable, most_pool, most_weights}
use Rattle.sharing.specs.Laws.{total, Apportioned, Lawful}
use Rattle.sharing.proofs.Parts.{shares_within}
use Rattle.deemed.specs.Pools.{NearPart}
use Rattle.rows.specs.declared.figures.Cents.{Cents}
use Rattle.rows.specs.declared.area.Area.{Area}
use Rattle.rows.specs.declared.party.Party.{Party}
use Rattle.rows.specs.Kinds.{is_ciso}
use Rattle.charges.specs.Columns.{parties_in, entries_in, cents_in, weight, weights}
use Rattle.charges.specs.Charged.{offset_shares_of}
use Rattle.charges.proofs.Areas.{total_of_0}
use Rattle.charges.proofs.Limits.{within_limits}
use Rattle.charges.proofs.SharedParts.{near_in_area, within_each}
use Rattle.charges.proofs.Totals.{total_same, total_of_none, total_of_single}

module _ {shares : ℤ → List ℕ → List ℤ} (lawful : Lawful shares) (areas : List Area) (parties : List Party) (few : length parties ≤ most_weights) (index : ℕ) (pool : ℤ) (small : unsigned_abs pool ≤ most_pool) (column : List Cents)
    (shared : All (λ a. cents_in a.id parties column ≡ offset_shares_of shares pool parties index a) areas) where
  abbrev at_ciso : Area → Type 0
  at_ciso a = Apportioned pool (weights index a parties) (cents_in a.id parties column)

  apportioned : All (λ a. is_ciso a.kind ≡ true → at_ciso a) areas
  apportioned i d h ciso =
      let a : Area = get_or areas i d in
      let own : cents_in a.id parties column ≡ shares pool (weights index a parties) = rw ciso at (shared i d h) in
      rw own (lawful pool (weights index a parties) (within_limits index pool a parties small few))

  elsewhere : All (λ a. is_ciso a.kind ≡ false → cents_in a.id parties column ≡ map (λ _. pos 0) (parties_in a.id parties)) areas
  elsewhere i d h weim = rw weim at (shared i d h)

  pub offset_near : All (λ a. is_ciso a.kind ≡ true → All (λ e. NearPart pool (sum (weights index a parties)) (weight a.kind index e.0) e.1.0) (entries_in a.id parties column)) areas
  offset_near = λ i d h ciso. near_in_area index pool (get_or areas i d) parties column (apportioned i d h ciso)

  pub offset_small : (m : ℕ) → unsigned_abs pool ≤ m → All (λ a. All (λ e. unsigned_abs e.1.0 ≤ m) (entries_in a.id parties column)) areas
  offset_small m le = λ i d h.
      let a : Area = get_or areas i d in
      let zs : List ℤ = cents_in a.id parties column in
      let Small : ℤ → Type 0 = λ z. unsigned_abs z ≤ unsigned_abs pool in
      let each : All Small zs =
      ⊎_elim (λ ciso. shares_within pool (weights index a parties) zs (apportioned i d h ciso))
      (λ weim. rw (elsewhere i d h weim) (All-map Small (λ _. pos 0) (parties_in a.id parties) (λ j e k. omega arith)))
      (cases_Bool (is_ciso a.kind)) in
      let es : List (Party × Cents) = entries_in a.id parties column in
      All-weaker (λ e. unsigned_abs e.1.0 ≤ unsigned_abs pool) (λ e. unsigned_abs e.1.0 ≤ m) (λ e small. le_trans small le) es (within_each pool es each)

  module _ (shareable : All (λ a. is_ciso a.kind ≡ true → Shareable pool (weights index a parties)) areas) where
    offset_in : All (λ a. total (cents_in a.id parties column) ≡ cond (is_ciso a.kind) pool (pos 0)) areas
    offset_in = λ i d h.
        let a : Area = get_or areas i d in
        ⊎_elim (λ ciso. (apportioned i d h ciso).in_full (shareable i d h ciso) ∙ rw ciso refl)
        (λ weim. ap total (elsewhere i d h weim) ∙ total_of_0 (parties_in a.id parties) ∙ rw weim refl) (cases_Bool (is_ciso a.kind))

    -- in all they have the pool, where there is no pool without a CISO area
    pub offset_paid : count_by (λ a. is_ciso a.kind) areas ≤ 1 → (count_by (λ a. is_ciso a.kind) areas ≡ 0 → pool ≡ pos 0) → total (map (λ a. total (cents_in a.id parties column)) areas) ≡ pool
    offset_paid one none =
        let p : Area → Bool = λ a. is_ciso a.kind in
        total_same (λ a. total (cents_in a.id parties column)) (λ a. cond (is_ciso a.kind) pool (pos 0)) areas offset_in
        ∙ ⊎_elim (λ some. total_of_single p pool areas (omega arith)) (λ few. let zero : count_by p areas ≡ 0 = omega arith in total_of_none p pool areas zero ∙ sym (none zero))
        (cases_lt 0 (count_by p areas))
