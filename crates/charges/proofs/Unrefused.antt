-- Where no fault of an interval fits, each pool may be shared. Assumes nothing.
use Rattle.std.proofs.Common.{◌≡◌, ℕ, true, false, List, ◌++◌, map, None}
use Rattle.std.specs.List.{All}
use Rattle.std.proofs.lemmas.List.Elements.{All-weaker}
use Rattle.sharing.specs.Limits.{Shareable}
use Rattle.tables.specs.Refusals.{first_fit}
use Rattle.tables.proofs.Fits.{none_fits, none_of_both, none_of_each}
use Rattle.rows.specs.declared.area.Area.{Area}
use Rattle.rows.specs.declared.party.Party.{Party}
use Rattle.rows.specs.declared.resource.Resource.{Resource}
use Rattle.rows.specs.Kinds.{is_ciso}
use Rattle.formulas.specs.Surcharge.{area_pool}
use Rattle.charges.specs.Columns.{weights}
use Rattle.charges.specs.Amounts.{offset_pool}
use Rattle.charges.specs.Faults.{offset_fault, surcharge_fault, interval_faults}
use Rattle.charges.proofs.Shareable.{shareable}

-- the CISO area's offset, and each area's surcharge
pub all_shareable : (areas : List Area) (parties : List Party) (resources : List Resource) (index : ℕ) → first_fit (interval_faults areas parties resources index) ≡ None
    → All (λ a. is_ciso a.kind ≡ true → Shareable (offset_pool resources parties index) (weights index a parties)) areas × All (λ a. Shareable (area_pool index a) (weights index a parties)) areas
all_shareable areas parties resources index none =
    let offset = offset_fault resources parties index in
    let surcharge = surcharge_fault parties index in
    let both = none_of_both (map offset areas) (map surcharge areas) (none_fits (map offset areas ++ map surcharge areas) none) in (
      All-weaker (λ a. (offset a).fits ≡ false) (λ a. is_ciso a.kind ≡ true → Shareable (offset_pool resources parties index) (weights index a parties))
          (λ a fits ciso. shareable (offset_pool resources parties index) (weights index a parties) (rw ciso at fits)) areas (none_of_each offset areas both.0),
      All-weaker (λ a. (surcharge a).fits ≡ false) (λ a. Shareable (area_pool index a) (weights index a parties))
          (λ a fits. shareable (area_pool index a) (weights index a parties) fits) areas (none_of_each surcharge areas both.1),
    )
