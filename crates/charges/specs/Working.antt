-- What private functions say of their answers. Assumes nothing.
use Rattle.std.specs.Prelude.{ℕ, List, ℤ, Result}
use Rattle.rows.specs.declared.figures.Cents.{Cents}
use Rattle.rows.specs.declared.figures.DeemedEnergy.{DeemedEnergy}
use Rattle.rows.specs.declared.area.Area.{Area}
use Rattle.rows.specs.declared.party.Party.{Party}
use Rattle.rows.specs.declared.resource.Resource.{Resource}
use Rattle.rows.specs.Posted.{with_table}
use Rattle.formulas.specs.Surcharge.{area_pool}
use Rattle.charges.specs.declared.amounts.IntervalAmounts.{IntervalAmounts}
use Rattle.charges.specs.declared.fault.ChargeFault.{ChargeFault}
use Rattle.charges.specs.Columns.{weights}
use Rattle.charges.specs.Sharing.{SharedByArea}
use Rattle.charges.specs.Faults.{offset_fault_of, surcharge_fault}
use Rattle.charges.specs.Charged.{offset_shares_of, IntervalWorkedOut}

-- a pool of offset is shared among the parties of the CISO area, in an interval by its index
abbrev pub IsOffsetShared : {T : Type 0} → (ℤ → List ℕ → List ℤ) → ℤ → List Area → List Party → ℕ → List Cents → List Cents
    → Result T ChargeFault → Type 0
IsOffsetShared shares pool areas parties index before after r =
    SharedByArea (offset_fault_of pool parties index) (offset_shares_of shares pool parties index) areas parties before after r

-- the surcharge of each area is shared among its parties
abbrev pub AreSurchargesShared : {T : Type 0} → (ℤ → List ℕ → List ℤ) → List Area → List Party → ℕ → List Cents → List Cents
    → Result T ChargeFault → Type 0
AreSurchargesShared shares areas parties index before after r =
    SharedByArea (surcharge_fault parties index) (λ a. shares (area_pool index a) (weights index a parties)) areas parties before
    after r

-- an interval is worked out with the energies of a table
abbrev pub IsWorkedOutWith : (ℤ → List ℕ → List ℤ) → List Area → List Party → List Resource → List (List DeemedEnergy) → ℕ
    → Result IntervalAmounts ChargeFault → Type 0
IsWorkedOutWith shares areas parties resources table index r =
    IntervalWorkedOut shares areas parties (with_table table resources) index r
