-- A column by the areas of its parties. Assumes nothing.
use Rattle.std.proofs.Common.{◌≡◌, ◌≢◌, ◌==◌, ℕ, suc, true, false, cond, List, [], ◌∷◌, map, length, take, ℤ, pos, ◌+ℤ◌, is_some, refl, sym, ap, ◌∙◌, ⊎_elim, arith}
use Rattle.std.specs.List.{All, zip}
use Rattle.std.proofs.lemmas.Bool.{cases_Bool, false≢true, eqb-true, eqb-false, eq-eqb, ne_eqb}
use Rattle.std.proofs.lemmas.Int.{ints}
use Rattle.std.proofs.lemmas.List.Elements.{All-nil, All-cons, All-head, All-tail, All-weaker}
use Rattle.sharing.specs.Laws.{total}
use Rattle.sharing.proofs.Totals.{total-cons}
use Rattle.tables.specs.Tables.{row_under}
use Rattle.rows.specs.declared.figures.Cents.{Cents}
use Rattle.rows.specs.declared.area.Area.{Area}
use Rattle.rows.specs.declared.party.Party.{Party}
use Rattle.records.specs.Hours.{area_id}
use Rattle.charges.specs.Columns.{entries_in, cents_in}
use Rattle.charges.specs.Sharing.{Distinct}

-- the area of a party is among them
abbrev pub Home : List Area → Party → Type 0
Home areas p = is_some (row_under area_id p.area areas) ≡ true

pub total_of_0 : {X : Type 0} (xs : List X) → total (map (λ _. pos 0) xs) ≡ pos 0
total_of_0 [] = refl
total_of_0 (x ∷ xs) = total_of_0 xs

-- what belongs to one area alone, and is z there
module _ (id : ℕ) (z : ℤ) where
  abbrev at : Area → ℤ
  at a = cond (id == a.id) z (pos 0)

  elsewhere : (areas : List Area) → All (λ a. id ≢ a.id) areas → total (map at areas) ≡ pos 0
  elsewhere [] none = refl
  elsewhere (a ∷ areas) none =
      let P : Area → Type 0 = λ a. id ≢ a.id in
      rw (ne_eqb id a.id (All-head P a areas none)) (elsewhere areas (All-tail P a areas none))

  once : (areas : List Area) → Distinct areas → is_some (row_under area_id id areas) ≡ true → total (map at areas) ≡ z
  once [] distinct home = absurd (false≢true home)
  once (a ∷ areas) distinct home =
      ⊎_elim
      (λ e.
      let s : id ≡ a.id = sym (eqb-true a.id id e) in
      let others = elsewhere areas (λ k d h. λ t. distinct 0 (suc k) d (omega arith) (omega arith) (sym s ∙ t)) in
      rw (eq-eqb id a.id s) (total-cons z (map at areas) ∙ ap (λ y. z +ℤ y) others ∙ omega (arith, ints)))
      (λ e.
      let ne : (id == a.id) ≡ false = ne_eqb id a.id (λ s. eqb-false a.id id e (sym s)) in
      rw ne (once areas (λ i j d h k. distinct (suc i) (suc j) d (omega arith) (omega arith)) (rw e at home)))
      (cases_Bool (a.id == id))

one_more : (areas : List Area) (p : Party) (ps : List Party) (c : Cents) (cs : List Cents)
    → total (map (λ a. total (cents_in a.id (p ∷ ps) (c ∷ cs))) areas) ≡ total (map (at p.area c.0) areas) +ℤ total (map (λ a. total (cents_in a.id ps cs)) areas)
one_more [] p ps c cs = refl
one_more (a ∷ areas) p ps c cs =
    let all : Area → ℤ = λ a. total (cents_in a.id (p ∷ ps) (c ∷ cs)) in
    let later : Area → ℤ = λ a. total (cents_in a.id ps cs) in
    let here : all a ≡ at p.area c.0 a +ℤ later a =
    ⊎_elim (λ e. rw e (total-cons c.0 (cents_in a.id ps cs))) (λ e. rw e (omega (arith, ints))) (cases_Bool (p.area == a.id)) in
    let rest = one_more areas p ps c cs in
    omega (arith, ints, total-cons (all a) (map all areas), total-cons (at p.area c.0 a) (map (at p.area c.0) areas), total-cons (later a) (map later areas))

-- the total of a column is the total of what each area's parties have of it
pub total_by_area : (areas : List Area) (parties : List Party) (column : List Cents) → Distinct areas → All (Home areas) parties
    → total (map (λ c. c.0) (take (length parties) column)) ≡ total (map (λ a. total (cents_in a.id parties column)) areas)
total_by_area areas [] column distinct homes = sym (total_of_0 areas)
total_by_area areas (p ∷ ps) [] distinct homes = sym (total_of_0 areas)
total_by_area areas (p ∷ ps) (c ∷ cs) distinct homes =
    let later : ℤ = total (map (λ a. total (cents_in a.id ps cs)) areas) in
    let rest = total_by_area areas ps cs distinct (All-tail (Home areas) p ps homes) in
    let own = once p.area c.0 areas distinct (All-head (Home areas) p ps homes) in
    total-cons c.0 (map (λ c. c.0) (take (length ps) cs)) ∙ ap (λ z. c.0 +ℤ z) rest ∙ ap (λ z. z +ℤ later) (sym own) ∙ sym (one_more areas p ps c cs)

-- what holds of an area's entries holds without the first party
without_first : (P : Party × Cents → Type 0) (area : ℕ) (p : Party) (ps : List Party) (c : Cents) (cs : List Cents) → All P (entries_in area (p ∷ ps) (c ∷ cs)) → All P (entries_in area ps cs)
without_first P area p ps c cs each = ⊎_elim (λ e. All-tail P (p, c) (entries_in area ps cs) (rw e at each)) (λ e. rw e at each) (cases_Bool (p.area == area))

-- what holds of all areas holds of the one that is found
pub at_found : (Q : Area → Type 0) (id : ℕ) (areas : List Area) → All Q areas → is_some (row_under area_id id areas) ≡ true → (a : Area) × (id ≡ a.id) × Q a
at_found Q id [] each home = absurd (false≢true home)
at_found Q id (a ∷ areas) each home =
    ⊎_elim (λ e. (a, sym (eqb-true a.id id e), All-head Q a areas each))
    (λ e. at_found Q id areas (All-tail Q a areas each) (rw e at home)) (cases_Bool (a.id == id))

-- what holds of the entries of each area holds of all entries
pub all_by_area : (P : Party × Cents → Type 0) (areas : List Area) (parties : List Party) (column : List Cents) → All (Home areas) parties
    → All (λ a. All P (entries_in a.id parties column)) areas → All P (zip parties column)
all_by_area P areas [] column homes each = All-nil P
all_by_area P areas (p ∷ ps) [] homes each = All-nil P
all_by_area P areas (p ∷ ps) (c ∷ cs) homes each =
    let Q : Area → Type 0 = λ a. All P (entries_in a.id (p ∷ ps) (c ∷ cs)) in
    let f = at_found Q p.area areas each (All-head (Home areas) p ps homes) in
    let own : All P ((p, c) ∷ entries_in f.0.id ps cs) = rw (eq-eqb p.area f.0.id f.1) at f.2 in
    let later = All-weaker Q (λ a. All P (entries_in a.id ps cs)) (λ a. without_first P a.id p ps c cs) areas each in
    All-cons P (p, c) (zip ps cs) (All-head P (p, c) (entries_in f.0.id ps cs) own) (all_by_area P areas ps cs (All-tail (Home areas) p ps homes) later)
