-- What is answered where deemed energies are worked out anew by a rule that means `shares`. Assumes nothing.
use Rattle.std.specs.Prelude.{◌≡◌, ℕ, true, false, List, ◌++◌, map, length, drop, Some, None, ℤ, Result, Ok, Err}
use Rattle.sharing.specs.declared.outcome.SharingFault.TheVariants.{NoWeight}
use Rattle.tables.specs.Refusals.{first_fit}
use Rattle.deemed.specs.declared.fault.PoolFault.{PoolFault}
use Rattle.rows.specs.declared.figures.DeemedEnergy.{DeemedEnergy}
use Rattle.rows.specs.declared.resource.Resource.{Resource}
use Rattle.charges.specs.declared.fault.ChargeFault.{ChargeFault}
use Rattle.charges.specs.Energies.{new_energies}
use Rattle.charges.specs.Faults.{tie_fault}

-- of one resource
abbrev pub Renewed : {T : Type 0} → (ℤ → List ℕ → List ℤ) → Resource → List DeemedEnergy → List DeemedEnergy
    → Result T PoolFault → Type 0
Renewed shares r before after (Ok _) = ((tie_fault r).fits ≡ false) × (after ≡ new_energies shares r)
Renewed shares r before after (Err f) = ((tie_fault r).fits ≡ true) × (f.0 ≡ NoWeight) × (after ≡ before)

-- of many, at the front of a table
abbrev pub RenewedAll : {T : Type 0} → (ℤ → List ℕ → List ℤ) → List Resource → List (List DeemedEnergy)
    → List (List DeemedEnergy) → Result T ChargeFault → Type 0
RenewedAll shares resources before after (Ok _) =
    (first_fit (map tie_fault resources) ≡ None)
    × (after ≡ map (new_energies shares) resources ++ drop (length resources) before)
RenewedAll shares resources before after (Err f) = first_fit (map tie_fault resources) ≡ Some f
