-- Lines whose accounts are known, where there are more ids. Assumes nothing.
use Rattle.std.proofs.Common.{◌≡◌, ℕ, ◌+◌, ◌<◌, ◌==◌, true, false, List, ◌++◌, length, pos, slice_index, refl, sym, ◌∙◌, ⊎_elim, arith, eqb-true}
use Rattle.std.specs.List.{All, list_any}
use Rattle.std.proofs.lemmas.Bool.{or_cases, false_from_ne_true}
use Rattle.std.proofs.lemmas.List.{length-append, get_or_append_left, get_or-append-add, get_or_default}
use Rattle.std.proofs.lemmas.List.Elements.{All-weaker}
use Rattle.std.proofs.lemmas.List.Folds.{Any-from_list_any, list_any-append}
use Rattle.charges.specs.declared.code.ChargeCode.{ChargeCode}
use Rattle.statement.specs.declared.line.Line.{Line}
use Rattle.statement.specs.Lines.{billed, key}
use Rattle.statement.proofs.Known.{known, Apart}
use Rattle.statement.proofs.LineTotals.{total_of_none}

-- more ids that are apart from these
module _ (ids more : List ℕ) (apart : Apart (ids ++ more)) where
  -- accounts stay known
  pub still_known : (account : ℕ) → known ids account ≡ true → known (ids ++ more) account ≡ true
  still_known account e = rw (list_any-append (λ id. id == account) ids more) (grind (arith, e))

  -- a known account is none of theirs
  not_known : (account : ℕ) (i : ℕ) → i < length more → known ids account ≡ true → (account == slice_index more i) ≡ false
  not_known account i inside e =
      false_from_ne_true (account == slice_index more i) (λ same.
      let here : slice_index (ids ++ more) (length ids + i) ≡ account = get_or-append-add ids more i 0 ∙ sym (eqb-true account (slice_index more i) same) in
      let long : length (ids ++ more) ≡ length ids + length more = length-append ids more in
      ⊎_elim
      (λ is_0. apart.not_0 (length ids + i) (omega arith) (here ∙ eqb-true account 0 is_0))
      (λ is_any.
      let at = Any-from_list_any (λ id. id == account) ids is_any in
      let k : ℕ = at.0 in
      let inside_k : k < length ids = at.2 in
      let there : slice_index (ids ++ more) k ≡ account =
      get_or_append_left ids more 0 k inside_k ∙ get_or_default ids k 0 at.1 inside_k ∙ at.3 ∙ eqb-true at.1 account at.4 in
      let twice = apart.distinct k (length ids + i) (omega arith) (omega arith) (there ∙ sym here) in
      omega arith)
      (or_cases (account == 0) (list_any (λ id. id == account) ids) e))

  -- so nothing is billed of them
  pub unbilled : (lines : List Line) → All (λ l. known ids l.account ≡ true) lines → (place : ℕ) (code : ChargeCode) (i : ℕ) → i < length more
      → billed lines code place (slice_index more i) ≡ pos 0
  unbilled lines accounts place code i inside =
      total_of_none (key code place (slice_index more i)) lines
      (All-weaker (λ l. known ids l.account ≡ true) (λ l. key code place (slice_index more i) l ≡ false) (λ l e. rw (not_known l.account i inside e) refl) lines accounts)
