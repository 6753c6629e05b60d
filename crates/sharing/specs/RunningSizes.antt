-- The sizes of the running rule are exact. Assumes nothing.
use Rattle.std.specs.Prelude.{◌≡◌, ℕ, ◌+◌, ◌-◌, ◌*◌, ◌/◌, ◌<◌, ◌≤◌, List, length, take, sum, slice_index}
use Rattle.std.proofs.Common.{ap, ◌∙◌, le_refl, mul-zero, mul-add, mul-le-mul_left, mod-lt, mul-div_cancel, arith}
use Rattle.std.proofs.Math.Nat.{zero-div, div-add-mod}
use Rattle.sharing.specs.Laws.{Lawful}
use Rattle.sharing.specs.Running.{earnings, running_size, running}
use Rattle.sharing.specs.Sums.{up_to, up_to_is, sum_more, sum_all, div_mono, part_split}
use Rattle.sharing.specs.BySize.{AreExact, apportioned}

-- a place whose weight is w, with b before it and c up to it
module _ (q r whole : ℕ) (some : 0 < whole) (b c w : ℕ) (next : c ≡ b + w) where
  pub rises : r * b / whole ≤ r * c / whole
  rises = div_mono (r * b) (r * c) whole some (mul-le-mul_left r (omega arith))

  step : q * c + r * c / whole ≡ (q * b + r * b / whole) + (q * w + (r * c / whole - r * b / whole))
  step = let m : q * c ≡ q * b + q * w = ap (λ n. q * n) next ∙ mul-add q b w in let le = rises in omega arith

  close : (whole * (q * w + (r * c / whole - r * b / whole)) < (q * whole + r) * w + whole) × ((q * whole + r) * w < whole * (q * w + (r * c / whole - r * b / whole)) + whole)
  close =
      let d : ℕ = r * c / whole - r * b / whole in
      let le = rises in
      let m : whole * (q * w + d) ≡ whole * (q * w) + whole * d = mul-add whole (q * w) d in
      let up : whole * (r * c / whole) ≡ whole * (r * b / whole) + whole * d = ap (λ x. whole * x) (omega arith) ∙ mul-add whole (r * b / whole) d in
      let at_b = div-add-mod (r * b) whole in
      let at_c = div-add-mod (r * c) whole in
      let lt_b = mod-lt (r * b) some in
      let lt_c = mod-lt (r * c) some in
      let more : r * c ≡ r * b + r * w = ap (λ x. r * x) next ∙ mul-add r b w in
      let exact = part_split q r whole w in
      (omega arith, omega arith)

module _ (q r : ℕ) (ws : List ℕ) (part : r < sum ws) where
  some : 0 < sum ws
  some = omega arith

  -- the sizes of the first k
  abbrev reached : ℕ → ℕ
  reached k = q * sum (take k ws) + earnings r ws k

  reached_none : reached 0 ≡ 0
  reached_none = let a : r * 0 / sum ws ≡ 0 = ap (λ n. n / sum ws) (mul-zero r) ∙ zero-div (sum ws) in omega arith

  reached_more : (k : ℕ) → k < length ws → reached (k + 1) ≡ reached k + running_size q r ws k
  reached_more k h = step q r (sum ws) some (sum (take k ws)) (sum (take (k + 1) ws)) (slice_index ws k) (sum_more ws k h)

  reached_all : reached (length ws) ≡ q * sum ws + r
  reached_all =
      let s : sum (take (length ws) ws) ≡ sum ws = sum_all ws (length ws) (le_refl (length ws)) in
      ap (λ x. q * x + r * x / sum ws) s ∙ ap (λ x. q * sum ws + x) (mul-div_cancel r some)

  sizes_all : up_to (running_size q r ws) (length ws) ≡ q * sum ws + r
  sizes_all = up_to_is (running_size q r ws) reached (length ws) reached_none reached_more ∙ reached_all

pub running_exact : AreExact running_size
running_exact =
    record {
      all = sizes_all;
      near = λ q r ws i part h. close q r (sum ws) (some q r ws part) (sum (take i ws)) (sum (take (i + 1) ws)) (slice_index ws i) (sum_more ws i h);
    }

pub running_lawful : Lawful running
unfolding running
running_lawful p ws within = apportioned running_size p ws running_exact
