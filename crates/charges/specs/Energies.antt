-- The new deemed energies of an hour, by a rule that means `shares`. Assumes nothing.
use Rattle.std.specs.Prelude.{◌≡◌, ℕ, List, map, replicate, ℤ, pos, sum}
use Rattle.std.specs.List.{All, zip}
use Rattle.sharing.specs.Laws.{total}
use Rattle.deemed.specs.Ranges.{hour_length}
use Rattle.deemed.specs.Tags.{pool, weights}
use Rattle.deemed.specs.Pools.{NearPart}
use Rattle.rows.specs.declared.figures.DeemedEnergy.{DeemedEnergy}
use Rattle.rows.specs.declared.kinds.ResourceKind.TheVariants.{Plain, StaticTie, DynamicTie}
use Rattle.rows.specs.declared.kinds.ResourceKind.{ResourceKind}
use Rattle.rows.specs.declared.resource.Resource.{Resource}
use Rattle.rows.specs.Figures.{as_deemed}
use Rattle.rows.specs.Posted.{with_energies}

-- none of a plain resource; of a static tie what its tags schedule; of a dynamic tie the rule's shares of that
abbrev pub energies_by_kind : (ℤ → List ℕ → List ℤ) → ResourceKind → Resource → List ℤ
energies_by_kind shares Plain r = replicate hour_length (pos 0)
energies_by_kind shares StaticTie r = map (λ t. t.kw.0) r.tags
energies_by_kind shares DynamicTie r = shares (pool r.tags) (weights r.tags)

-- the figure of so many units
abbrev pub figure_of : ℤ → DeemedEnergy
figure_of z = as_deemed (record { 0 = z })

-- as figures in their range
unfoldable pub new_energies : (ℤ → List ℕ → List ℤ) → Resource → List DeemedEnergy
new_energies shares r = map figure_of (energies_by_kind shares r.kind r)

-- a resource with them
abbrev pub with_new_energies : (ℤ → List ℕ → List ℤ) → Resource → Resource
with_new_energies shares r = with_energies (new_energies shares r) r

-- energies as numbers
abbrev pub counts : List DeemedEnergy → List ℤ
counts energies = map (λ e. e.units.0) energies

-- what holds of a resource's new deemed energies, whatever the rule
pub record EnergyLaws (r : Resource) (energies : List DeemedEnergy) : Type 0 where
  pub of_plain : r.kind ≡ Plain → counts energies ≡ replicate hour_length (pos 0)
  pub of_static : r.kind ≡ StaticTie → counts energies ≡ map (λ t. t.kw.0) r.tags
  -- a tie's total what its tags schedule
  pub static_in_full : r.kind ≡ StaticTie → total (counts energies) ≡ pool r.tags
  pub in_full : r.kind ≡ DynamicTie → total (counts energies) ≡ pool r.tags
  -- each is less than a unit off its exact part
  pub near :
      r.kind ≡ DynamicTie
      → All (λ x. NearPart (pool r.tags) (sum (weights r.tags)) x.0 x.1) (zip (weights r.tags) (counts energies))
