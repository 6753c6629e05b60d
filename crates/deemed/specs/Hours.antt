-- What a tie's hour holds. Assumes nothing.
use Rattle.std.specs.Prelude.{◌≡◌, ℕ, List, map, replicate, ℤ, pos}
use Rattle.deemed.specs.declared.quantities.Units.{Units}
use Rattle.deemed.specs.declared.hour.TieHour.{TieHour}
use Rattle.deemed.specs.Ranges.{hour_length}

-- what its intervals weigh
unfoldable pub weights_of : TieHour → List ℕ
weights_of h = map (λ i. i.weight) h.intervals

-- the energies of its intervals
unfoldable pub units_of : TieHour → List Units
units_of h = map (λ i. i.deemed) h.intervals

-- energies as numbers
abbrev pub energies : List Units → List ℤ
energies us = map (λ u. u.0) us

abbrev pub energies_of : TieHour → List ℤ
energies_of h = energies (units_of h)

-- the hour of some weights, before any energy is shared
pub record IsUnshared (ws : List ℕ) (h : TieHour) : Type 0 where
  pub weighed : weights_of h ≡ ws
  pub nothing_yet : units_of h ≡ replicate hour_length (record { 0 = pos 0 })
