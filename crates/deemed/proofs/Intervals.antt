-- A tie's hour by its intervals. Assumes nothing.
use Rattle.std.proofs.Common.{◌≡◌, ℕ, List, map, length, pos, sym, ◌∙◌, map-id}
use mathlib.Core.List.{map-map}
use mathlib.Core.HLevel.{is_prop→PathP}
use native.Mathlib.Nat.{ℕ_set}
use Rattle.std.proofs.lemmas.List.{length-map}
use Rattle.std.proofs.lemmas.Simd.{splat_is_map}
use Rattle.deemed.specs.declared.hour.Interval.{Interval}
use Rattle.deemed.specs.declared.hour.TieHour.{TieHour}
use Rattle.deemed.specs.Ranges.{hour_length}
use Rattle.deemed.specs.Hours.{units_of, weights_of, energies, IsUnshared}

-- an hour is its intervals
pub same_hour : (g h : TieHour) → g.intervals ≡ h.intervals → g ≡ h
same_hour g h e = λ i. record { intervals = e i; long = is_prop→PathP (λ j. length (e j) ≡ hour_length) (λ j. ℕ_set _ _) g.long h.long i }

pub weights_long : (h : TieHour) → length (weights_of h) ≡ hour_length
unfolding weights_of
weights_long h = length-map h.intervals (λ i. i.weight) ∙ h.long

pub energies_are : (h : TieHour) → map (λ i. i.deemed.0) h.intervals ≡ energies (units_of h)
unfolding units_of
energies_are h = simp map-map

-- an interval of a weight, before it has energy
abbrev pub not_yet : ℕ → Interval
not_yet w = record { weight = w; deemed = record { 0 = pos 0 } }

pub unshared : (ws : List ℕ) (h : TieHour) → length ws ≡ hour_length → h.intervals ≡ map not_yet ws → IsUnshared ws h
unfolding weights_of units_of
unshared ws h long is =
    record {
      weighed = rw is (simp (map-map, map-id));
      nothing_yet = rw is (simp map-map (sym (splat_is_map ws hour_length _ long)));
    }
