-- The shares of largest remainder go by the remainders. Assumes nothing.
use Rattle.std.specs.Prelude.{◌≡◌, ◌⊎◌, ℕ, ◌+◌, ◌*◌, ◌/◌, ◌%◌, ◌<◌, ◌≤◌, Bool, List, length, ℤ, pos, IfOk, Ok, Err, Result, sum, nat_lt, slice_index, slice_index_or, unsigned_abs}
use Rattle.std.proofs.Common.{sym, ap, subst, ◌∙◌, inl, inr, ⊎_elim, mod-lt, arith}
use Rattle.std.proofs.Math.Nat.{mul-add-div, mul-add-mod_self_left}
use Rattle.std.proofs.lemmas.Bool.{cases_Bool, cases_lt, lt-ltb, le-ltb}
use Rattle.sharing.specs.declared.outcome.SharingFault.{SharingFault}
use Rattle.sharing.specs.declared.outcome.Shares.{Shares}
use Rattle.sharing.specs.Outcome.{IsAnswer, shares_in}
use Rattle.sharing.specs.LargestRemainder.{bit, remainders, shortfall, rank, largest_remainder_size, largest_remainder}
use Rattle.sharing.specs.ByRemainder.{floor_at, remainder_at, HasMore, IsByRemainder}
use Rattle.sharing.specs.Sums.{part_split}
use Rattle.sharing.specs.Tallies.{bit-true, bit-false}
use Rattle.sharing.specs.BySize.{unsigned_abs-signed, sized, sized_some, slice_index_or-by_place, split}
use Rattle.sharing.specs.RemainderSizes.{slice_index-rs, more_first}

module _ (p : ℤ) (ws : List ℕ) (some : 0 < sum ws) where
  abbrev q : ℕ
  q = unsigned_abs p / sum ws

  abbrev r : ℕ
  r = unsigned_abs p % sum ws

  abbrev gets_more : ℕ → Bool
  gets_more i = nat_lt (rank (remainders r ws) i) (shortfall r ws)

  part : r < sum ws
  part = mod-lt (unsigned_abs p) some

  parts : (w : ℕ) → unsigned_abs p * w ≡ sum ws * (q * w) + r * w
  parts w = ap (λ n. n * w) (sym (split largest_remainder_size p ws)) ∙ part_split q r (sum ws) w

  rounded_is : (i : ℕ) → floor_at p ws i ≡ q * slice_index ws i + r * slice_index ws i / sum ws
  rounded_is i = let w : ℕ = slice_index ws i in ap (λ n. n / sum ws) (parts w) ∙ mul-add-div some (q * w) (r * w)

  remainder_is : (i : ℕ) → i < length ws → remainder_at p ws i ≡ slice_index (remainders r ws) i
  remainder_is i h =
      let w : ℕ = slice_index ws i in
      ap (λ n. n % sum ws) (parts w) ∙ mul-add-mod_self_left (sum ws) (q * w) (r * w) ∙ sym (slice_index-rs r ws part i h)

  size_is : (i : ℕ) → i < length ws → unsigned_abs (slice_index_or (largest_remainder p ws) i (pos 0)) ≡ floor_at p ws i + bit (gets_more i)
  unfolding largest_remainder
  size_is i h =
      ap unsigned_abs (slice_index_or-by_place largest_remainder_size p ws i h) ∙ unsigned_abs-signed p (sized largest_remainder_size p ws i)
      ∙ sized_some largest_remainder_size p ws some i ∙ ap (λ n. n + bit (gets_more i)) (sym (rounded_is i))

  units : (i : ℕ) → i < length ws → HasMore 0 p ws (largest_remainder p ws) i ⊎ HasMore 1 p ws (largest_remainder p ws) i
  units i h =
      ⊎_elim (λ e. inr (size_is i h ∙ ap (λ n. floor_at p ws i + n) (bit-true (gets_more i) e)))
      (λ e. inl (size_is i h ∙ ap (λ n. floor_at p ws i + n) (bit-false (gets_more i) e))) (cases_Bool (gets_more i))

  gets : (i : ℕ) → i < length ws → HasMore 1 p ws (largest_remainder p ws) i → rank (remainders r ws) i < shortfall r ws
  gets i h more =
      ⊎_elim (λ l. l)
      (λ l. let none = bit-false (gets_more i) (le-ltb (rank (remainders r ws) i) (shortfall r ws) l) in absurd (omega (arith, more, none, size_is i h)))
      (cases_lt (rank (remainders r ws) i) (shortfall r ws))

  lacks : (i : ℕ) → i < length ws → HasMore 0 p ws (largest_remainder p ws) i → shortfall r ws ≤ rank (remainders r ws) i
  lacks i h no_more =
      ⊎_elim (λ l. let one = bit-true (gets_more i) (lt-ltb (rank (remainders r ws) i) (shortfall r ws) l) in absurd (omega (arith, no_more, one, size_is i h)))
      (λ l. l) (cases_lt (rank (remainders r ws) i) (shortfall r ws))

  pub by_remainder : IsByRemainder p ws (largest_remainder p ws)
  by_remainder =
      record {
        units = units;
        order = λ i j h l more no_more. rw (remainder_is i h, remainder_is j l) (more_first r ws part i j l (gets i h more) (lacks j l no_more));
      }

-- of what the rule answers
pub answer_by_remainder : (p : ℤ) (ws : List ℕ) (r : Result Shares SharingFault) → IsAnswer p ws (largest_remainder p ws) r → IfOk r (λ s. 0 < sum ws → IsByRemainder p ws (shares_in s))
answer_by_remainder p ws (Ok s) answered = λ some. subst (IsByRemainder p ws) (sym answered.2) (by_remainder p ws some)
answer_by_remainder p ws (Err f) answered = tt
