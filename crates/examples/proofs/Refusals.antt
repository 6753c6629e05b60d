-- Weights that are all 0, and any pool but 0. Assumes nothing.
use Rattle.std.specs.Prelude.{◌≡◌, ◌≢◌, ◌≤◌, ℕ, zero, suc, ℤ, pos, sum, replicate, unsigned_abs, refl}
use Rattle.std.proofs.Common.{arith}
use Rattle.std.proofs.lemmas.List.{length-replicate, get_or-replicate}
use Rattle.sharing.specs.declared.outcome.SharingFault.TheVariants.{NoWeight}
use Rattle.sharing.specs.Limits.{most_pool, most_weights}
use Rattle.sharing.specs.Outcome.{Refused}

sum_of_none : (n : ℕ) → sum (replicate n 0) ≡ 0
sum_of_none zero = refl
sum_of_none (suc n) = sum_of_none n

pub refused_by_no_weight : (p : ℤ) (n : ℕ) → unsigned_abs p ≤ most_pool → n ≤ most_weights → p ≢ pos 0 → Refused p (replicate n 0) NoWeight
refused_by_no_weight p n small few some = (
  record {
    pool = small;
    count = omega (arith, length-replicate {A = ℕ} n 0);
    each = λ i h. omega (arith, get_or-replicate {A = ℕ} n i 0 0 (omega (arith, length-replicate {A = ℕ} n 0)));
    total = omega (arith, sum_of_none n);
  },
  λ shareable. some (shareable (sum_of_none n)),
)
