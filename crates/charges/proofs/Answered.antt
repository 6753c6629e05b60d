-- What is answered where a pool is shared in an area, where its fault is already that of the hour. Assumes nothing.
use Rattle.std.proofs.Common.{◌≡◌, ℕ, List, true, false, ℤ, Ok, Err, Result, ap}
use Rattle.std.specs.Result.{MatchResult}
use Rattle.sharing.specs.declared.outcome.SharingFault.TheVariants.{NoWeight}
use Rattle.tables.specs.declared.refusal.Reason.{Reason}
use Rattle.deemed.specs.declared.fault.PoolFault.{PoolFault}
use Rattle.deemed.specs.Pools.{OutcomeWithin}
use Rattle.charges.specs.declared.fault.ChargeFault.{ChargeFault}
use Rattle.charges.specs.Faults.{fault_at, unshareable}
use Rattle.charges.proofs.Shareable.{not_unshareable, unshareable_is}

abbrev pub Answered : {T : Type 0} → ℤ → List ℕ → Type 0 → ChargeFault → Result T ChargeFault → Type 0
Answered pool ws right fault (Ok x) = (unshareable pool ws ≡ false) × right
Answered pool ws right fault (Err f) = (unshareable pool ws ≡ true) × (f ≡ fault)

-- the area's own fault, answered as that of the hour
pub answered : {T : Type 0} (reason : Reason) (interval : ℤ) (id : ℕ) (pool : ℤ) (ws : List ℕ) (right : Type 0) (from : Result T PoolFault) (to : Result T ChargeFault)
    → MatchResult from (λ x. to ≡ Ok x) (λ f. to ≡ Err (fault_at reason f.0 interval id)) → OutcomeWithin pool ws right from → Answered pool ws right (fault_at reason NoWeight interval id) to
answered reason interval id pool ws right (Ok x) to is done = rw is (not_unshareable pool ws done.0, done.1)
answered reason interval id pool ws right (Err f) to is why = rw is (unshareable_is pool ws why.1 why.2, ap (λ w. fault_at reason w interval id) why.0)
