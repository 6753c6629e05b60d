-- A pool shared by weights, its fault whole. Assumes nothing.
use Rattle.std.specs.Prelude.{◌≡◌, ℕ, ◌<◌, List, ℤ, pos, Ok, Err, sum, Result, ◌≢◌}
use Rattle.sharing.specs.declared.outcome.SharingFault.TheVariants.{NoWeight}
use Rattle.sharing.specs.Limits.{Within, Shareable}
use Rattle.sharing.specs.Laws.{Near}
use Rattle.sharing.specs.Outcome.{Refused}
use Rattle.deemed.specs.declared.fault.PoolFault.{PoolFault}

-- refused as every rule owes, and else what is answered is right
abbrev pub PoolOutcome : {T : Type 0} → ℤ → List ℕ → Type 0 → Result T PoolFault → Type 0
PoolOutcome p ws right (Ok _) = Within p ws × Shareable p ws × right
PoolOutcome p ws right (Err f) = Refused p ws f.0

-- inside the limits: refused exactly where there is something to share and no weight
abbrev pub OutcomeWithin : {T : Type 0} → ℤ → List ℕ → Type 0 → Result T PoolFault → Type 0
OutcomeWithin p ws right (Ok _) = Shareable p ws × right
OutcomeWithin p ws right (Err f) = (f.0 ≡ NoWeight) × (sum ws ≡ 0) × (p ≢ pos 0)

-- less than one unit off the exact part p * w / W, which is nothing where there is no weight
pub record NearPart (p : ℤ) (W w : ℕ) (part : ℤ) : Type 0 where
  pub near : 0 < W → Near p W w part
  pub none : W ≡ 0 → part ≡ pos 0
