-- A pool of money in parts, one for each party of an area. Assumes nothing.
use Rattle.std.specs.Prelude.{◌≡◌, ◌≢◌, ◌≤◌, ℕ, List, length, drop, ℤ, sum, IfOk, IfErr, Result, unsigned_abs}
use Rattle.std.specs.List.{All}
use Rattle.sharing.specs.Laws.{total}
use Rattle.deemed.specs.declared.fault.PoolFault.{PoolFault}
use Rattle.deemed.specs.Pools.{OutcomeWithin, NearPart}
use Rattle.rows.specs.declared.figures.Cents.{Cents}
use Rattle.rows.specs.declared.area.Area.{Area}
use Rattle.rows.specs.declared.party.Party.{Party}
use Rattle.charges.specs.Columns.{entries_in, cents_in, weight, weights}

-- the parties of an area have these cents in a column, which otherwise is as before
pub record GivenTo (area : ℕ) (parties : List Party) (cents : List ℤ) (before after : List Cents) : Type 0 where
  pub own : cents_in area parties after ≡ cents
  -- other areas' parties have what they had
  pub others : (other : ℕ) → other ≢ area → entries_in other parties after ≡ entries_in other parties before
  -- and so has what stands behind the parties
  pub behind : drop (length parties) after ≡ drop (length parties) before
  pub long : length after ≡ length before

-- the parties of an area have their exact parts of a pool in a column, but for less than a cent
abbrev pub AreNearParts : ℕ → ℤ → Area → List Party → List Cents → Type 0
AreNearParts index pool area parties column =
    let total_weight = sum (weights index area parties) in
    All (λ e. NearPart pool total_weight (weight area.kind index e.0) e.1.0) (entries_in area.id parties column)

-- What is answered where a pool is shared among the parties of an area by a rule that means `shares`, in an interval by its
-- index, and the column afterwards.
pub record IsSharedIn {T : Type 0} (shares : ℤ → List ℕ → List ℤ) (index : ℕ) (pool : ℤ) (area : Area)
    (parties : List Party) (before after : List Cents) (r : Result T PoolFault) : Type 0 where
  -- refused exactly where the pool is not 0 and no party weighs; else the area's parties have the rule's shares, and nothing
  -- else has changed
  pub outcome :
      let ws = weights index area parties in
      OutcomeWithin pool ws (GivenTo area.id parties (shares pool ws) before after) r
  -- refused, nothing has changed
  pub kept : IfErr r (λ _. after ≡ before)
  -- in all they have the pool
  pub in_full : IfOk r (λ _. total (cents_in area.id parties after) ≡ pool)
  -- each has its exact part, but for less than a cent
  pub near : IfOk r (λ _. AreNearParts index pool area parties after)
  -- and none has more than the pool
  pub within : IfOk r (λ _. All (λ e. unsigned_abs e.1.0 ≤ unsigned_abs pool) (entries_in area.id parties after))
