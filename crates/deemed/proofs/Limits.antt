-- The pool and the weights of a tie's hour are inside the limits of sharing. Assumes nothing.
use Rattle.std.proofs.Common.{◌≡◌, ◌≤◌, ◌*◌, ℕ, ℤ, ◌+ℤ◌, FitsSigned, w64, take, max, true, false, cond, List, map, length, get_or, unsigned_abs, arith}
use Rattle.std.specs.List.{All}
use Rattle.std.proofs.lemmas.Int.{ints, fits_signed_from_abs}
use Rattle.std.proofs.lemmas.List.{length-map, length-take}
use Rattle.std.proofs.lemmas.List.Elements.{All-map}
use Rattle.std.proofs.lemmas.List.Sums.{sum_by-le}
use Rattle.sharing.specs.Limits.{Within}
use Rattle.sharing.proofs.Totals.{total_within}
use Rattle.deemed.specs.declared.tag.Tag.{Tag}
use Rattle.deemed.specs.Ranges.{hour_length, most_kw, most_telemetry}
use Rattle.deemed.specs.Tags.{flowed, interval_weight, weight, weights, pool}

weight_within : (t : Tag) → weight t ≤ most_telemetry
unfolding interval_weight
weight_within t =
    let from = t.metered_from in
    let to = t.metered_to in
    elim (flowed t.kw.0 t.curtailed) as (λ b. cond b (max (unsigned_abs t.telemetry.0) 1) 0 ≤ most_telemetry) [ true ↦ omega (arith, ints) | false ↦ omega arith ]

-- what tags schedule is bounded by how many there are
scheduled_within : (ts : List Tag) → unsigned_abs (pool ts) ≤ length ts * most_kw
scheduled_within ts =
    omega (arith, length-map ts (λ t. t.kw.0), total_within most_kw (map (λ t. t.kw.0) ts) (All-map (λ z. unsigned_abs z ≤ most_kw) (λ t. t.kw.0) ts (λ i t h. (get_or ts i t).scheduled)))

-- what the first tags schedule can be added to
pub next_fits : (sum : ℤ) (t : Tag) (ts : List Tag) (i : ℕ) → length ts ≡ hour_length → sum ≡ pool (take i ts) → FitsSigned w64 (sum +ℤ t.kw.0)
next_fits sum t ts i long so_far = let small = t.scheduled in fits_signed_from_abs w64 _ (omega (arith, ints, scheduled_within (take i ts), length-take i ts))

pub within_limits : (ts : List Tag) → length ts ≡ hour_length → Within (pool ts) (weights ts)
within_limits ts long =
    let count : length (weights ts) ≡ length ts = length-map ts weight in
    let within : All (λ w. w ≤ most_telemetry) (weights ts) = All-map (λ w. w ≤ most_telemetry) weight ts (λ i t h. weight_within (get_or ts i t)) in
    record {
      pool = omega (arith, scheduled_within ts);
      count = omega arith;
      each = λ i h. within i 0 h;
      total = omega (arith, sum_by-le (λ x. x) most_telemetry (weights ts) within);
    }
