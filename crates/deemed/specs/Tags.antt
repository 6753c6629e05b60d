-- What the tags of a tie's hour schedule, and what its intervals weigh. Assumes nothing.
use Rattle.std.specs.Prelude.{◌≡◌, ℕ, ◌≤◌, ◌≤ℤ◌, ◌<ℤ◌, nat_le, int_le, max, Bool, true, false, cond, not, ◌&&◌, List, map, ℤ, pos, Some, None, Option, ◌≢◌, nat_lt, unsigned_abs}
use Rattle.std.proofs.Common.{lit≤, arith}
use Rattle.sharing.specs.Laws.{total}
use Rattle.deemed.specs.declared.quantities.Kilowatts.{Kilowatts}
use Rattle.deemed.specs.declared.quantities.TelemetrySteps.{TelemetrySteps}
use Rattle.deemed.specs.declared.tag.Tag.{Tag}
use Rattle.deemed.specs.Ranges.{most_kw, most_telemetry}

-- figures that a tag may have
abbrev pub kw_in_range : Kilowatts → Bool
kw_in_range kw = nat_le (unsigned_abs kw.0) most_kw

abbrev pub telemetry_in_range : TelemetrySteps → Bool
telemetry_in_range telemetry = int_le (pos 0) telemetry.0 && int_le telemetry.0 (pos most_telemetry)

-- and 0 in place of any other
abbrev pub kw_or_0 : Kilowatts → ℤ
kw_or_0 kw = cond (kw_in_range kw) kw.0 (pos 0)

abbrev pub telemetry_or_0 : TelemetrySteps → ℤ
telemetry_or_0 telemetry = cond (telemetry_in_range telemetry) telemetry.0 (pos 0)

pub kw_within : (kw : Kilowatts) → unsigned_abs (kw_or_0 kw) ≤ most_kw
kw_within kw = grind (arith)

pub telemetry_from_0 : (telemetry : TelemetrySteps) → pos 0 ≤ℤ telemetry_or_0 telemetry
telemetry_from_0 telemetry = grind (arith)

pub telemetry_within : (telemetry : TelemetrySteps) → telemetry_or_0 telemetry ≤ℤ pos most_telemetry
telemetry_within telemetry = grind (arith)

-- the tag that figures in range make
unfoldable pub as_tag : Kilowatts → TelemetrySteps → Bool → Tag
as_tag kw telemetry curtailed = record {
  kw = record { 0 = kw_or_0 kw };
  telemetry = record { 0 = telemetry_or_0 telemetry };
  curtailed = curtailed;
  scheduled = kw_within kw;
  metered_from = telemetry_from_0 telemetry;
  metered_to = telemetry_within telemetry;
}

-- the tag that figures make, which has just these, or none where one is out of range
abbrev pub IsTag : Kilowatts → TelemetrySteps → Bool → Option Tag → Type 0
IsTag kw telemetry curtailed (Some t) =
    (kw_in_range kw ≡ true) × (telemetry_in_range telemetry ≡ true) × (t ≡ as_tag kw telemetry curtailed)
    × (t.kw ≡ kw) × (t.telemetry ≡ telemetry) × (t.curtailed ≡ curtailed)
IsTag kw telemetry curtailed None = (kw_in_range kw && telemetry_in_range telemetry) ≡ false

-- what stands for an interval without a tag: nothing scheduled or metered, and not curtailed
abbrev pub no_tag : Tag
no_tag = record {
  kw = record { 0 = pos 0 };
  telemetry = record { 0 = pos 0 };
  curtailed = false;
  scheduled = lit≤ tt;
  metered_from = omega arith;
  metered_to = omega arith;
}

-- energy flowed on a tag that was not curtailed and schedules some
abbrev pub flowed : ℤ → Bool → Bool
flowed kw curtailed = not curtailed && nat_lt 0 (unsigned_abs kw)

-- where energy flowed, an interval weighs its telemetry, and a step at least; elsewhere nothing
unfoldable pub interval_weight : ℤ → ℤ → Bool → ℕ
interval_weight kw telemetry curtailed = cond (flowed kw curtailed) (max (unsigned_abs telemetry) 1) 0

-- what an interval weighs, case by case
pub record IsWeight (kw telemetry : ℤ) (curtailed : Bool) (w : ℕ) : Type 0 where
  -- a curtailed tag did not flow
  pub on_curtailed : curtailed ≡ true → w ≡ 0
  -- nor did one that schedules nothing
  pub on_no_kw : kw ≡ pos 0 → w ≡ 0
  -- one that flowed counts as a step where the meter told nothing
  pub on_no_telemetry : curtailed ≡ false → (kw ≢ pos 0) → telemetry ≡ pos 0 → w ≡ 1
  pub on_telemetry : curtailed ≡ false → (kw ≢ pos 0) → pos 0 <ℤ telemetry → pos w ≡ telemetry

abbrev pub weight : Tag → ℕ
weight t = interval_weight t.kw.0 t.telemetry.0 t.curtailed

abbrev pub weights : List Tag → List ℕ
weights ts = map weight ts

-- what the tags schedule in all, the curtailed ones too, in units: a kilowatt over an interval is one
abbrev pub pool : List Tag → ℤ
pool ts = total (map (λ t. t.kw.0) ts)
