-- A number's slot, where the count is cut to the largest number that can be given. Assumes nothing.
use Rattle.std.proofs.Common.{◌≡◌, true, false, true≢false, sym, ◌∙◌, ℕ, ℤ, pos, ◌≤ℤ◌, ⊎_elim, arith}
use Rattle.std.proofs.lemmas.Bool.{cases_Bool}
use Rattle.std.proofs.lemmas.Int.{ints}
use Rattle.tables.specs.Ranges.{in_range, within, inside}
use Rattle.rows.specs.Slots.{is_slot}

module _ (count : ℕ) (most z : ℤ) where
  pub slot_within : most ≤ℤ pos count → in_range (pos 1) most z ≡ true → is_slot count z ≡ true
  slot_within less e =
      let w = within (pos 1) most z e in
      let to = w.1 in
      inside (pos 1) (pos count) z w.0 (omega (arith, ints))

  pub slot_outside : (z ≤ℤ pos count → z ≤ℤ most) → in_range (pos 1) most z ≡ false → is_slot count z ≡ false
  slot_outside less e = ⊎_elim
      (λ yes. let w = within (pos 1) (pos count) z yes in absurd (true≢false (sym (inside (pos 1) most z w.0 (less w.1)) ∙ e)))
      (λ no. no)
      (cases_Bool (is_slot count z))
