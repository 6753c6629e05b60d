-- What a run changes is by the columns and balances of its amounts alone, and of the earlier ones. Assumes nothing.
use Rattle.std.proofs.Common.{◌≡◌, ℕ, ◌<◌, zero, suc, List, [], ◌∷◌, ◌++◌, map, length, ◌-ℤ◌, slice_index, refl, sym, ◌∙◌, arith}
use Rattle.std.specs.List.{flat_map}
use Rattle.std.proofs.lemmas.Grind.{flat_map-append}
use Rattle.charges.specs.declared.amounts.IntervalAmounts.{IntervalAmounts}
use Rattle.charges.specs.declared.code.ChargeCode.TheVariants.{Cc6476}
use Rattle.charges.specs.Faults.{first_indices}
use Rattle.charges.proofs.Determined.{Alike}
use Rattle.statement.specs.declared.line.Line.{Line}
use Rattle.charges.specs.Codes.{all_codes}
use Rattle.statement.specs.Lines.{changes, interval_changes, parties_changes, party_changes, line, cents_at}

-- in an interval
same_in : (run place : ℕ) (ids : List ℕ) {new new' earlier earlier' : IntervalAmounts} → Alike new new' → Alike earlier earlier'
    → interval_changes run place new earlier ids ≡ interval_changes run place new' earlier' ids
unfolding interval_changes parties_changes party_changes
same_in run place ids a e =
    λ k. flat_map (λ i. map (λ code. line run place (slice_index ids i) code (cents_at (a.columns code k) i -ℤ cents_at (e.columns code k) i)) all_codes) (first_indices (length ids))
    ++ line run place 0 Cc6476 (a.balance k -ℤ e.balance k) ∷ []

-- lists of lines by places are the same where they are at each place
below : (f g : ℕ → List Line) (n : ℕ) → ((place : ℕ) → place < n → f place ≡ g place) → flat_map f (first_indices n) ≡ flat_map g (first_indices n)
below f g zero same = refl
below f g (suc n) same =
    flat_map-append f (first_indices n) (n ∷ []) ∙ (λ k. below f g n (λ place inside. same place (omega arith)) k ++ (same n (omega arith) k ++ []))
    ∙ sym (flat_map-append g (first_indices n) (n ∷ []))

-- in the first so many intervals
pub same_changes : (run : ℕ) (new new' earlier earlier' : ℕ → IntervalAmounts) (ids : List ℕ) (n : ℕ)
    → ((place : ℕ) → place < n → Alike (new place) (new' place)) → ((place : ℕ) → place < n → Alike (earlier place) (earlier' place))
    → changes run new earlier ids n ≡ changes run new' earlier' ids n
unfolding changes
same_changes run new new' earlier earlier' ids n alike earlier_alike =
    below (λ place. interval_changes run place (new place) (earlier place) ids) (λ place. interval_changes run place (new' place) (earlier' place) ids) n
    (λ place inside. same_in run place ids (alike place inside) (earlier_alike place inside))
