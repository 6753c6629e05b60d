-- What is answered where a resource's deemed energies are worked out anew. Assumes nothing.
use Rattle.std.proofs.Common.{◌≡◌, ◌≤◌, ℕ, List, map, length, true, false, ℤ, pos, Ok, Err, Result, unsigned_abs, refl, sym, ap, ◌∙◌, arith}
use mathlib.Core.List.{map-map}
use Rattle.std.specs.List.{All}
use Rattle.std.specs.Result.{MatchResult}
use Rattle.std.proofs.lemmas.List.{length-map, get_or-map}
use Rattle.sharing.specs.Laws.{Lawful}
use Rattle.tables.specs.declared.refusal.Reason.TheVariants.{NoTieWeight}
use Rattle.deemed.specs.declared.quantities.Units.{Units}
use Rattle.deemed.specs.declared.fault.PoolFault.{PoolFault}
use Rattle.deemed.specs.declared.hour.TieHour.{TieHour}
use Rattle.deemed.specs.Ranges.{hour_length}
use Rattle.deemed.specs.Tags.{pool, weights}
use Rattle.deemed.specs.Hours.{units_of, energies}
use Rattle.deemed.specs.Deemed.{IsTieShared}
use Rattle.rows.specs.declared.figures.DeemedEnergy.{DeemedEnergy}
use Rattle.rows.specs.declared.kinds.ResourceKind.TheVariants.{DynamicTie}
use Rattle.rows.specs.declared.resource.Resource.{Resource}
use Rattle.rows.specs.Ranges.{most_deemed}
use Rattle.rows.specs.Figures.{as_deemed}
use Rattle.charges.specs.declared.fault.ChargeFault.{ChargeFault}
use Rattle.charges.specs.Faults.{fault_at, tie_fault}
use Rattle.charges.specs.Energies.{energies_by_kind, figure_of, new_energies}
use Rattle.charges.specs.Renewing.{Renewed}
use Rattle.charges.proofs.Shareable.{not_unshareable, unshareable_is}
use Rattle.charges.proofs.Energies.{energies_within}

-- the answer for one resource, where its fault is already that of the hour
abbrev pub RenewedOne : {T : Type 0} → (ℤ → List ℕ → List ℤ) → Resource → List DeemedEnergy → Result T ChargeFault → Type 0
RenewedOne shares r has (Ok x) = ((tie_fault r).fits ≡ false) × (has ≡ new_energies shares r)
RenewedOne shares r has (Err f) = ((tie_fault r).fits ≡ true) × (f ≡ (tie_fault r).reason)

-- a resource's own fault, answered as that of the hour
pub renewed_one : {T : Type 0} (shares : ℤ → List ℕ → List ℤ) (r : Resource) (had has : List DeemedEnergy) (from : Result T PoolFault) (to : Result T ChargeFault)
    → MatchResult from (λ x. to ≡ Ok x) (λ f. to ≡ Err (fault_at NoTieWeight f.0 (pos 0) r.id)) → Renewed shares r had has from → RenewedOne shares r has to
renewed_one shares r had has (Ok x) to is done = rw is done
renewed_one shares r had has (Err f) to is done = rw is (done.0, ap (λ why. fault_at NoTieWeight why (pos 0) r.id) done.1)

-- units are in range where their numbers are
within_each : (us : List Units) → All (λ z. unsigned_abs z ≤ most_deemed) (energies us) → All (λ u. unsigned_abs u.0 ≤ most_deemed) us
within_each us each = λ i d h.
    let long : length (energies us) ≡ length us = length-map us (λ u. u.0) in
    rw (← get_or-map (λ u. u.0) us i d (pos 0) h) (each i (pos 0) (omega arith))

-- the hour of a dynamic tie, after its energy is shared
module _ {shares : ℤ → List ℕ → List ℤ} (r : Resource) (dynamic : r.kind ≡ DynamicTie) {T : Type 0} {after : TieHour} where
  energies_are : {x : T} → IsTieShared shares r.tags after (Ok x) → energies (units_of after) ≡ energies_by_kind shares r.kind r
  energies_are t = rw dynamic t.outcome.1

  pub units_within : {x : T} → Lawful shares → length r.tags ≡ hour_length → IsTieShared shares r.tags after (Ok x) → All (λ u. unsigned_abs u.0 ≤ most_deemed) (units_of after)
  units_within lawful long t = within_each (units_of after) (rw (energies_are t) (energies_within lawful r long))

  pub renewed : {x : T} (had has : List DeemedEnergy) → IsTieShared shares r.tags after (Ok x) → has ≡ map as_deemed (units_of after) → Renewed {T = T} shares r had has (Ok x)
  unfolding new_energies
  renewed had has t is =
      (rw dynamic (not_unshareable (pool r.tags) (weights r.tags) t.outcome.0), is ∙ sym (simp map-map) ∙ ap (map figure_of) (energies_are t))

  pub refused : {f : PoolFault} (had : List DeemedEnergy) → IsTieShared {T = T} shares r.tags after (Err f) → Renewed {T = T} shares r had had (Err f)
  refused had t = (rw dynamic (unshareable_is (pool r.tags) (weights r.tags) t.outcome.1 t.outcome.2), t.outcome.0, refl)
