-- Why an hour is not worked out, and when. Assumes nothing.
use Rattle.std.specs.Prelude.{ℕ, ◌+◌, ◌==◌, zero, suc, Bool, not, ◌&&◌, List, [], ◌∷◌, ◌++◌, map, ℤ, pos, sum}
use Rattle.std.specs.List.{flat_map}
use Rattle.std.specs.Ordering.{int_eq}
use Rattle.sharing.specs.declared.outcome.SharingFault.{SharingFault}
use Rattle.sharing.specs.declared.outcome.SharingFault.TheVariants.{Limit, NoWeight}
use Rattle.tables.specs.declared.refusal.Reason.{Reason}
use Rattle.tables.specs.declared.refusal.Reason.TheVariants.{OutsideValues, NoTieWeight, NoDemand, NoSurchargeWeight}
use Rattle.tables.specs.declared.refusal.Part.TheVariants.{Sharing}
use Rattle.tables.specs.declared.refusal.Refusal.{Refusal}
use Rattle.tables.specs.Refusals.{Fit, ◌when◌}
use Rattle.deemed.specs.Ranges.{hour_length}
use Rattle.deemed.specs.Tags as tags
use Rattle.rows.specs.declared.area.Area.{Area}
use Rattle.rows.specs.declared.party.Party.{Party}
use Rattle.rows.specs.declared.resource.Resource.{Resource}
use Rattle.rows.specs.Kinds.{is_ciso, is_dynamic}
use Rattle.formulas.specs.Surcharge.{area_pool}
use Rattle.charges.specs.declared.fault.ChargeFault.{ChargeFault}
use Rattle.charges.specs.Columns.{weights}
use Rattle.charges.specs.Energies.{with_new_energies}
use Rattle.charges.specs.Amounts.{offset_pool}

-- the number of an interval, by its index from 0
abbrev pub interval_number : ℕ → ℤ
interval_number index = pos (index + 1)

-- a fault with its reason, the number of its interval or 0, and an id
abbrev pub fault_at : Reason → SharingFault → ℤ → ℕ → ChargeFault
fault_at reason fault interval id =
    record { fault = record { 0 = fault }; reason = reason; place = record { interval = interval; id = pos id } }

-- it arose where the sharing stands
abbrev pub refusal_of : ChargeFault → Refusal
refusal_of f = record { reason = f.reason; part = Sharing; place = f.place }

-- the reason of the list that a rule's own fault is
abbrev pub rule_reason : SharingFault → Reason
rule_reason Limit = OutsideValues
rule_reason NoWeight = NoTieWeight

-- what a rule that is called alone refuses by: in part 1, without a place
abbrev pub rule_refusal : SharingFault → Refusal
rule_refusal f = record { reason = rule_reason f; part = Sharing; place = record { interval = pos 0; id = pos 0 } }

-- there is something to share, and no weight
abbrev pub unshareable : ℤ → List ℕ → Bool
unshareable pool weights = sum weights == 0 && not (int_eq pool (pos 0))

-- the energy of a dynamic tie
abbrev pub tie_fault : Resource → Fit ChargeFault
tie_fault r =
    fault_at NoTieWeight NoWeight (pos 0) r.id
    when (is_dynamic r.kind && unshareable (tags.pool r.tags) (tags.weights r.tags))

-- a pool of offset in an interval, by its index from 0, which is the CISO area's to share
abbrev pub offset_fault_of : ℤ → List Party → ℕ → Area → Fit ChargeFault
offset_fault_of pool parties index a =
    fault_at NoDemand NoWeight (interval_number index) a.id
    when (is_ciso a.kind && unshareable pool (weights index a parties))

abbrev pub offset_fault : List Resource → List Party → ℕ → Area → Fit ChargeFault
offset_fault resources parties index a = offset_fault_of (offset_pool resources parties index) parties index a

-- the surcharge of an area
abbrev pub surcharge_fault : List Party → ℕ → Area → Fit ChargeFault
surcharge_fault parties index a =
    fault_at NoSurchargeWeight NoWeight (interval_number index) a.id
    when unshareable (area_pool index a) (weights index a parties)

-- those of an interval
abbrev pub interval_faults : List Area → List Party → List Resource → ℕ → List (Fit ChargeFault)
interval_faults areas parties resources index =
    map (offset_fault resources parties index) areas ++ map (surcharge_fault parties index) areas

-- the indices of the first so many intervals
abbrev pub first_indices : ℕ → List ℕ
first_indices zero = []
first_indices (suc n) = first_indices n ++ n ∷ []

-- those of an hour: the ties in the order entered, then the intervals, with the new deemed energies
abbrev pub hour_faults : (ℤ → List ℕ → List ℤ) → List Area → List Party → List Resource → List (Fit ChargeFault)
hour_faults shares areas parties resources =
    let renewed = map (with_new_energies shares) resources in
    map tie_fault resources ++ flat_map (interval_faults areas parties renewed) (first_indices hour_length)
