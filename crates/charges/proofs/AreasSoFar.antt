-- A column in which pools are shared area by area. Assumes nothing.
use Rattle.std.proofs.Common.{◌≡◌, ◌≢◌, ◌==◌, ◌≤◌, ◌<◌, ◌+◌, ℕ, zero, suc, true, false, List, [], ◌∷◌, map, length, take, drop, replicate, get_or, None, Some, ℤ, pos, refl, sym, ap, ◌∙◌, ⊎_elim, arith}
use Rattle.std.specs.List.{AllWithin}
use Rattle.std.proofs.lemmas.Bool.{cases_Bool}
use Rattle.std.proofs.lemmas.List.{get_or_default}
use Rattle.std.proofs.lemmas.List.Elements.{AllWithin-more, AllWithin-upto, at_read}
use Rattle.tables.specs.Refusals.{Fit, first_fit}
use Rattle.tables.proofs.Firsts.{none_more, first_here}
use Rattle.rows.specs.declared.figures.Cents.{Cents}
use Rattle.rows.specs.declared.area.Area.{Area}
use Rattle.rows.specs.declared.party.Party.{Party}
use Rattle.charges.specs.declared.fault.ChargeFault.{ChargeFault}
use Rattle.charges.specs.Columns.{parties_in, entries_in, cents_in}
use Rattle.charges.specs.Amounts.{no_cents}
use Rattle.charges.specs.Parts.{GivenTo}
use Rattle.charges.specs.Sharing.{Distinct}

-- the first so many areas have their shares, and all else is as before
pub record SharedSoFar (faults : Area → Fit ChargeFault) (shares : Area → List ℤ) (areas : List Area) (parties : List Party) (before : List Cents) (i : ℕ) (now : List Cents) : Type 0 where
  pub none : first_fit (map faults (take i areas)) ≡ None
  pub shared : AllWithin (λ a. cents_in a.id parties now ≡ shares a) areas 0 i
  pub others : (id : ℕ) → AllWithin (λ a. id ≢ a.id) areas 0 i → entries_in id parties now ≡ entries_in id parties before
  pub behind : drop (length parties) now ≡ drop (length parties) before
  pub long : length now ≡ length before

-- one area more
module _ {faults : Area → Fit ChargeFault} {shares : Area → List ℤ} {areas : List Area} {parties : List Party} {before : List Cents} {i : ℕ} {now : List Cents} (x : Area) (in' : i < length areas) (is : x ≡ get_or areas i x) (s : SharedSoFar faults shares areas parties before i now) where
  new_id : Distinct areas → AllWithin (λ a. x.id ≢ a.id) areas 0 i
  new_id distinct = λ k d low high same. distinct k i d high in' (sym same ∙ ap (λ a. a.id) (is ∙ get_or_default areas i x d in'))

  -- its parties are given its shares
  pub one_shared : Distinct areas → (faults x).fits ≡ false → (after : List Cents) (cents : List ℤ) → cents ≡ shares x → GivenTo x.id parties cents now after
      → SharedSoFar faults shares areas parties before (i + 1) after
  one_shared distinct fits after cents right g =
      let Own : Area → Type 0 = λ a. cents_in a.id parties after ≡ shares a in
      let earlier : AllWithin Own areas 0 i = λ k d low high.
      ap (map (λ e. e.1.0)) (g.others (get_or areas k d).id (λ same. new_id distinct k d low high (sym same))) ∙ s.shared k d low high in
      record {
        none = none_more faults areas i x in' is s.none fits;
        shared = AllWithin-more Own areas 0 i earlier (at_read areas Own i x in' is (g.own ∙ right));
        others = λ id new.
            let ne : id ≢ x.id = λ same. new i x (omega arith) (omega arith) (same ∙ ap (λ a. a.id) is) in
            g.others id ne ∙ s.others id (AllWithin-upto (λ a. id ≢ a.id) areas 0 (i + 1) i (omega arith) new);
        behind = g.behind ∙ s.behind;
        long = g.long ∙ s.long;
      }

  -- they had them before
  pub one_passed : Distinct areas → (faults x).fits ≡ false → cents_in x.id parties before ≡ shares x → SharedSoFar faults shares areas parties before (i + 1) now
  one_passed distinct fits right =
      one_shared distinct fits now (cents_in x.id parties before) right
      (record { own = ap (map (λ e. e.1.0)) (s.others x.id (new_id distinct)); others = λ other ne. refl; behind = refl; long = refl })

  -- it is the first with a fault
  pub one_refused : (faults x).fits ≡ true → first_fit (map faults areas) ≡ Some (faults x).reason
  one_refused fits = first_here faults areas i x in' is s.none fits

-- where a column has 0 throughout, an area's parties have nothing
pub cents_of_none : (area : ℕ) (parties : List Party) (n : ℕ) → length parties ≤ n → cents_in area parties (replicate n no_cents) ≡ map (λ _. pos 0) (parties_in area parties)
cents_of_none area [] n room = refl
cents_of_none area (p ∷ ps) zero room = absurd (omega arith)
cents_of_none area (p ∷ ps) (suc n) room =
    let rest = cents_of_none area ps n (omega arith) in
    ⊎_elim (λ e. rw e (ap (λ l. pos 0 ∷ l) rest)) (λ e. rw e rest) (cases_Bool (p.area == area))
