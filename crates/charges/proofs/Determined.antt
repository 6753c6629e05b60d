-- The rule's meaning and the records leave no choice of an interval's columns and balance. Assumes nothing.
use Rattle.std.proofs.Common.{◌≡◌, ◌==◌, ℕ, true, List, [], ◌∷◌, length, drop, ℤ, refl, sym, ◌∙◌, ⊎_elim, arith}
use Rattle.std.specs.List.{All}
use Rattle.std.proofs.lemmas.Bool.{cases_Bool, eq-eqb}
use Rattle.std.proofs.lemmas.List.Elements.{All-head, All-tail, All-weaker}
use Rattle.rows.specs.declared.figures.Cents.{Cents}
use Rattle.rows.specs.declared.area.Area.{Area}
use Rattle.rows.specs.declared.party.Party.{Party}
use Rattle.rows.specs.declared.resource.Resource.{Resource}
use Rattle.charges.specs.declared.amounts.IntervalAmounts.{IntervalAmounts}
use Rattle.charges.specs.declared.code.ChargeCode.{ChargeCode}
use Rattle.charges.specs.declared.code.ChargeCode.TheVariants.{Cc6470, Cc6474, Cc6475, Cc6476, Cc6477}
use Rattle.charges.specs.Columns.{cents_in}
use Rattle.charges.specs.Codes.{column_under}
use Rattle.charges.specs.Charged.{IntervalCharged}
use Rattle.charges.proofs.Areas.{Home, at_found}

-- what an area's parties have alike in two columns they have alike without the first party
alike_without_first : (area : ℕ) (p : Party) (ps : List Party) (x y : Cents) (xs ys : List Cents)
    → cents_in area (p ∷ ps) (x ∷ xs) ≡ cents_in area (p ∷ ps) (y ∷ ys) → cents_in area ps xs ≡ cents_in area ps ys
alike_without_first area p ps x y xs ys same =
    ⊎_elim (λ (e : (p.area == area) ≡ true). let both = rw e at same in cc) (λ e. rw e at same) (cases_Bool (p.area == area))

-- two columns are the same where each area's parties have the same in both, and the same stands behind the parties
pub same_by_area : (areas : List Area) (parties : List Party) (xs ys : List Cents) → All (Home areas) parties → length xs ≡ length ys
    → drop (length parties) xs ≡ drop (length parties) ys → All (λ a. cents_in a.id parties xs ≡ cents_in a.id parties ys) areas → xs ≡ ys
same_by_area areas [] xs ys homes long behind each = behind
same_by_area areas (p ∷ ps) [] [] homes long behind each = refl
same_by_area areas (p ∷ ps) [] (y ∷ ys) homes long behind each = absurd (omega arith)
same_by_area areas (p ∷ ps) (x ∷ xs) [] homes long behind each = absurd (omega arith)
same_by_area areas (p ∷ ps) (x ∷ xs) (y ∷ ys) homes long behind each =
    let Q : Area → Type 0 = λ a. cents_in a.id (p ∷ ps) (x ∷ xs) ≡ cents_in a.id (p ∷ ps) (y ∷ ys) in
    let f = at_found Q p.area areas each (All-head (Home areas) p ps homes) in
    let own : x.0 ∷ cents_in f.0.id ps xs ≡ y.0 ∷ cents_in f.0.id ps ys = rw (eq-eqb p.area f.0.id f.1) at f.2 in
    let first : x.0 ≡ y.0 = cc in
    let later = All-weaker Q (λ a. cents_in a.id ps xs ≡ cents_in a.id ps ys) (λ a. alike_without_first a.id p ps x y xs ys) areas each in
    let rest = same_by_area areas ps xs ys (All-tail (Home areas) p ps homes) (omega arith) behind later in
    λ k. record { 0 = first k } ∷ rest k

-- amounts that are the same in each column, and in the balance
pub record Alike (x y : IntervalAmounts) : Type 0 where
  pub columns : (code : ChargeCode) → column_under code x ≡ column_under code y
  pub balance : x.balance.0 ≡ y.balance.0

pub alike_itself : (x : IntervalAmounts) → Alike x x
alike_itself x = record { columns = λ code. refl; balance = refl }

-- amounts that are charged of the same records by the same rule are so
pub determined : {shares : ℤ → List ℕ → List ℤ} {areas : List Area} {parties : List Party} {resources : List Resource} {index : ℕ} {x y : IntervalAmounts} → All (Home areas) parties
    → IntervalCharged shares areas parties resources index x → IntervalCharged shares areas parties resources index y → Alike x y
determined {areas = areas} {parties = parties} {x = x} {y = y} homes one other = record { columns = each; balance = one.balance_is ∙ sym other.balance_is }
  where
    each : (code : ChargeCode) → column_under code x ≡ column_under code y
    each Cc6470 = one.cc_6470 ∙ sym other.cc_6470
    each Cc6474 = one.cc_6474 ∙ sym other.cc_6474
    each Cc6475 = one.cc_6475 ∙ sym other.cc_6475
    each Cc6476 =
        same_by_area areas parties x.cc_6476 y.cc_6476 homes (one.cc_6476_long ∙ sym other.cc_6476_long) (one.cc_6476_rest ∙ sym other.cc_6476_rest)
        (λ i d inside. one.cc_6476 i d inside ∙ sym (other.cc_6476 i d inside))
    each Cc6477 =
        same_by_area areas parties x.cc_6477 y.cc_6477 homes (one.cc_6477_long ∙ sym other.cc_6477_long) (one.cc_6477_rest ∙ sym other.cc_6477_rest)
        (λ i d inside. one.cc_6477 i d inside ∙ sym (other.cc_6477 i d inside))
