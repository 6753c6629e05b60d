-- The tag of zeros. Assumes nothing.
use Rattle.std.proofs.Common.{◌≡◌, ◌≤ℤ◌, false, pos}
use lib.Dec.{T_prop}
use lib.Signed.{le_z}
use Rattle.std.proofs.Math.Bridge.{le_prop}
use Rattle.deemed.specs.Tags.{as_tag, no_tag, kw_within, telemetry_from_0, telemetry_within}

le_z_prop : {a b : _} → (h k : a ≤ℤ b) → h ≡ k
le_z_prop {a = a} {b = b} h k = λ i. record { le = T_prop (le_z a b) h.le k.le i }

-- it is what stands for an interval without a tag
pub tag_of_zeros : as_tag (record { 0 = pos 0 }) (record { 0 = pos 0 }) false ≡ no_tag
unfolding as_tag
tag_of_zeros = λ i. record {
  kw = record { 0 = pos 0 };
  telemetry = record { 0 = pos 0 };
  curtailed = false;
  scheduled = le_prop (kw_within (record { 0 = pos 0 })) no_tag.scheduled i;
  metered_from = le_z_prop (telemetry_from_0 (record { 0 = pos 0 })) no_tag.metered_from i;
  metered_to = le_z_prop (telemetry_within (record { 0 = pos 0 })) no_tag.metered_to i;
}
