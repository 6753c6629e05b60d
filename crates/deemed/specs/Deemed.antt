-- The deemed energies of a tie's hour. Assumes nothing.
use Rattle.std.specs.Prelude.{◌≡◌, ℕ, ◌<◌, List, map, ℤ, pos, IfOk, IfErr, sum, Result, slice_index, slice_index_or}
use Rattle.sharing.specs.Limits.{Within}
use Rattle.sharing.specs.Laws.{total}
use Rattle.deemed.specs.declared.quantities.Units.{Units}
use Rattle.deemed.specs.declared.fault.PoolFault.{PoolFault}
use Rattle.deemed.specs.declared.tag.Tag.{Tag}
use Rattle.deemed.specs.declared.hour.TieHour.{TieHour}
use Rattle.deemed.specs.Ranges.{hour_length}
use Rattle.deemed.specs.Tags.{pool, weights}
use Rattle.deemed.specs.Pools.{PoolOutcome, OutcomeWithin, NearPart}
use Rattle.deemed.specs.Hours.{weights_of, energies, energies_of}

-- each interval has its exact part of a pool, but for less than a unit
abbrev pub AreNear : ℤ → List ℕ → List ℤ → Type 0
AreNear p ws zs = (i : ℕ) → i < hour_length → NearPart p (sum ws) (slice_index ws i) (slice_index_or zs i (pos 0))

-- what is answered where a pool p is shared in an hour by a rule that means `shares`, and the hour afterwards
pub record IsShared {T : Type 0} (shares : ℤ → List ℕ → List ℤ) (p : ℤ) (before after : TieHour)
    (r : Result T PoolFault) : Type 0 where
  -- refused as every rule owes, and else the energies are the rule's shares
  pub outcome : PoolOutcome p (weights_of before) (energies_of after ≡ shares p (weights_of before)) r
  -- refused, nothing has changed
  pub kept : IfErr r (λ _. after ≡ before)
  -- no weight has changed
  pub same_weights : weights_of after ≡ weights_of before
  -- in all the intervals have the pool
  pub in_full : IfOk r (λ _. total (energies_of after) ≡ p)
  pub near : IfOk r (λ _. AreNear p (weights_of before) (energies_of after))

-- what is answered where the energy of a dynamic tie is shared among the intervals of its tags
pub record IsTieShared {T : Type 0} (shares : ℤ → List ℕ → List ℤ) (tags : List Tag) (after : TieHour)
    (r : Result T PoolFault) : Type 0 where
  -- refused exactly where the pool is not 0 and all weights are, by 8; else the energies are the rule's shares of what the
  -- tags schedule
  pub outcome : OutcomeWithin (pool tags) (weights tags) (energies_of after ≡ shares (pool tags) (weights tags)) r
  -- the limits of sharing are never passed
  pub within : Within (pool tags) (weights tags)
  -- in all the intervals have what the tags schedule
  pub in_full : IfOk r (λ _. total (energies_of after) ≡ pool tags)
  pub near : IfOk r (λ _. AreNear (pool tags) (weights tags) (energies_of after))

-- so it is of the tags of an hour, where it has their weights and p is what they schedule
abbrev pub IsSharedByTags : {T : Type 0} → (ℤ → List ℕ → List ℤ) → ℤ → TieHour → TieHour → Result T PoolFault → Type 0
IsSharedByTags shares p before after r =
    (tags : List Tag) → weights_of before ≡ weights tags → p ≡ pool tags → IsTieShared shares tags after r

-- The deemed energies of a static tie's hour: each interval has what its tag schedules, which is its exact part, and so they
-- do in all.
pub record IsStaticTie (tags : List Tag) (units : List Units) : Type 0 where
  pub each : units ≡ map (λ t. record { 0 = t.kw.0 }) tags
  pub in_full : total (energies units) ≡ pool tags
