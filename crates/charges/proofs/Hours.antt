-- An hour, from its intervals. Assumes nothing.
use Rattle.std.proofs.Common.{◌≡◌, ◌<◌, ◌+◌, ℕ, zero, suc, List, [], ◌∷◌, ◌++◌, map, length, drop, replicate, get_or, set, None, Some, Result, ℤ, sym, ap, subst, ◌∙◌, ⊎_elim, append-nil, add-one, get_or-set_same, get_or-set_other, arith}
use Rattle.std.specs.List.{All, flat_map, zip}
use Rattle.std.proofs.lemmas.Bool.{cases_lt}
use Rattle.std.proofs.lemmas.Grind.{flat_map-append}
use Rattle.std.proofs.lemmas.List.{drop-replicate}
use Rattle.std.proofs.lemmas.List.Elements.{All-nil, All-cons, All-head, All-tail, All-map}
use Rattle.sharing.specs.Laws.{Lawful}
use Rattle.tables.specs.Refusals.{Fit, first_fit}
use Rattle.tables.proofs.Fits.{none_fits, none_of_each}
use Rattle.tables.proofs.Firsts.{first_fit-append, first_fit-front, first_fit-neither}
use Rattle.deemed.specs.Ranges.{hour_length}
use Rattle.rows.specs.declared.figures.DeemedEnergy.{DeemedEnergy}
use Rattle.rows.specs.declared.area.Area.{Area}
use Rattle.rows.specs.declared.party.Party.{Party}
use Rattle.rows.specs.declared.resource.Resource.{Resource}
use Rattle.rows.specs.Figures.{as_deemed, no_units}
use Rattle.rows.specs.Posted.{with_table}
use Rattle.records.specs.View.{Hour}
use Rattle.records.specs.Ranges.{most_resources}
use Rattle.records.specs.Sound.{Sound}
use Rattle.charges.specs.declared.amounts.IntervalAmounts.{IntervalAmounts}
use Rattle.charges.specs.declared.amounts.HourAmounts.{HourAmounts}
use Rattle.charges.specs.declared.fault.ChargeFault.{ChargeFault}
use Rattle.charges.specs.Amounts.{no_amounts}
use Rattle.charges.specs.Energies.{energies_by_kind, new_energies, with_new_energies, counts, EnergyLaws}
use Rattle.charges.specs.Faults.{tie_fault, interval_faults, first_indices, hour_faults}
use Rattle.charges.specs.Charged.{IntervalCharged, IntervalWorkedOut, HourCharged, HourLaws, renewed, at_index}
use Rattle.charges.proofs.Energies.{counts_are, energy_laws, tables_with, renewed_deemed}
use Rattle.charges.proofs.IntervalLaws.{interval_laws, same_owners}

-- the faults of the first so many intervals
module _ {R : Type 0} (faults : ℕ → List (Fit R)) where
  abbrev pub so_far : ℕ → List (Fit R)
  so_far n = flat_map faults (first_indices n)

  one_more : (n : ℕ) → so_far (suc n) ≡ so_far n ++ faults n
  one_more n = flat_map-append faults (first_indices n) (n ∷ []) ∙ ap (λ l. so_far n ++ l) (append-nil (faults n))

  pub none_at_next : (n : ℕ) → first_fit (so_far n) ≡ None → first_fit (faults n) ≡ None → first_fit (so_far (n + 1)) ≡ None
  none_at_next n none here = rw (add-one n, one_more n) (first_fit-append (so_far n) (faults n) none ∙ here)

  none_at : (n i : ℕ) → i < n → first_fit (so_far n) ≡ None → first_fit (faults i) ≡ None
  none_at zero i in' none = absurd (omega arith)
  none_at (suc n) i in' none =
      let both = first_fit-neither (so_far n) (faults n) (rw (one_more n) at none) in
      ⊎_elim (λ less. none_at n i less both.0) (λ most. subst (λ k. first_fit (faults k) ≡ None) (omega arith) both.1) (cases_lt i n)

  pub first_at : (n i : ℕ) (r : R) → i < n → first_fit (so_far i) ≡ None → first_fit (faults i) ≡ Some r → first_fit (so_far n) ≡ Some r
  first_at zero i r in' none here = absurd (omega arith)
  first_at (suc n) i r in' none here =
      rw (one_more n)
      (⊎_elim (λ less. first_fit-front (so_far n) (faults n) r (first_at n i r less none here))
      (λ most.
      let same : i ≡ n = omega arith in
      first_fit-append (so_far n) (faults n) (subst (λ k. first_fit (so_far k) ≡ None) same none) ∙ subst (λ k. first_fit (faults k) ≡ Some r) same here)
      (cases_lt i n))

-- what holds of each with what f makes of it holds of the pairs of a table that begins with these
at_front : {X Y : Type 0} (P : X → Y → Type 0) (f : X → Y) (xs : List X) (more : List Y) → All (λ x. P x (f x)) xs → All (λ e. P e.0 e.1) (zip xs (map f xs ++ more))
at_front P f [] more each = All-nil (λ e. P e.0 e.1)
at_front P f (x ∷ xs) more each =
    All-cons (λ e. P e.0 e.1) (x, f x) (zip xs (map f xs ++ more)) (All-head (λ x. P x (f x)) x xs each) (at_front P f xs more (All-tail (λ x. P x (f x)) x xs each))

-- the energies of a table in which nothing is deemed delivered
abbrev pub nothing : List (List DeemedEnergy)
nothing = replicate most_resources (replicate hour_length (as_deemed no_units))

module _ {shares : ℤ → List ℕ → List ℤ} (lawful : Lawful shares) (h : Hour) (sound : Sound h) (a : HourAmounts) where
  pub hour_charged : a.deemed ≡ map (new_energies shares) h.resources.rows ++ drop (length h.resources.rows) nothing
      → ((index : ℕ) → index < hour_length → IntervalCharged shares h.areas.rows h.parties.rows (renewed shares h) index (at_index a index))
      → HourCharged shares h a
  hour_charged table charged = record {
    energies = table ∙ ap (λ l. map (new_energies shares) h.resources.rows ++ l) (drop-replicate (length h.resources.rows) most_resources _);
    exact = rw table
        (at_front (λ r energies. counts energies ≡ energies_by_kind shares r.kind r) (new_energies shares) h.resources.rows _
        (λ i d k. counts_are lawful (get_or h.resources.rows i d) (sound.whole_resources i d k).1));
    intervals = charged;
  }

-- the laws of an hour of which no fault fits
module _ {shares : ℤ → List ℕ → List ℤ} (lawful : Lawful shares) (h : Hour) (sound : Sound h) (unrefused : first_fit (hour_faults shares h.areas.rows h.parties.rows h.resources.rows) ≡ None) where
  abbrev resources : List Resource
  resources = h.resources.rows

  abbrev faults_at : ℕ → List (Fit ChargeFault)
  faults_at = interval_faults h.areas.rows h.parties.rows (renewed shares h)

  neither : (first_fit (map tie_fault resources) ≡ None) × (first_fit (so_far faults_at hour_length) ≡ None)
  neither = first_fit-neither (map tie_fault resources) (so_far faults_at hour_length) unrefused

  each_energy : (i : ℕ) (d : Resource) → i < length resources → EnergyLaws (get_or resources i d) (new_energies shares (get_or resources i d))
  each_energy i d k = energy_laws lawful _ (sound.whole_resources i d k) (none_of_each tie_fault resources (none_fits (map tie_fault resources) neither.0) i d k)

  pub hour_laws : (a : HourAmounts) → HourCharged shares h a → HourLaws h (renewed shares h) a
  hour_laws a charged = record {
    energies = rw charged.energies (at_front EnergyLaws (new_energies shares) resources _ each_energy);
    intervals = λ index in'.
        interval_laws lawful h sound (renewed shares h) (same_owners shares resources) index in' (at_index a index) (none_at faults_at hour_length index in' neither.1) (charged.intervals index in');
  }

  -- the resources with their new deemed energies
  pub renewed_laws : All (λ r. EnergyLaws r r.deemed) (renewed shares h)
  renewed_laws = All-map (λ r. EnergyLaws r r.deemed) (with_new_energies shares) resources (λ i d k.
      let laws = each_energy i d k in
      rw (renewed_deemed shares (get_or resources i d) (sound.undeemed i d k)) (record { of_plain = laws.of_plain; of_static = laws.of_static; static_in_full = laws.static_in_full; in_full = laws.in_full; near = laws.near }))

-- An interval that is worked out with the rows of an hour and a table of new energies is one of the hour.
module _ (shares : ℤ → List ℕ → List ℤ) (h : Hour) {areas : List Area} {parties : List Party} {rows resources : List Resource} {table : List (List DeemedEnergy)} (more : List (List DeemedEnergy))
    (areas_are : areas ≡ h.areas.rows) (parties_are : parties ≡ h.parties.rows) (rows_are : rows ≡ h.resources.rows) (resources_are : resources ≡ h.resources.rows)
    (table_is : table ≡ map (new_energies shares) rows ++ more) where
  renewed_is : with_table table resources ≡ renewed shares h
  renewed_is = rw resources_are (tables_with shares h.resources.rows table more (table_is ∙ ap (λ l. map (new_energies shares) l ++ more) rows_are))

  pub in_hour : (index : ℕ) (r : Result IntervalAmounts ChargeFault) → IntervalWorkedOut shares areas parties (with_table table resources) index r
      → IntervalWorkedOut shares h.areas.rows h.parties.rows (renewed shares h) index r
  in_hour index r worked = rw (← renewed_is, ← areas_are, ← parties_are) worked

-- one index more of a list of intervals
module _ (P : ℕ → IntervalAmounts → Type 0) (xs : List IntervalAmounts) (i : ℕ) (x : IntervalAmounts) (in' : i < length xs) where
  pub placed : ((k : ℕ) → k < i → P k (get_or xs k no_amounts)) → P i x → (k : ℕ) → k < i + 1 → P k (get_or (set xs i x) k no_amounts)
  placed earlier here k less =
      ⊎_elim (λ low. subst (P k) (sym (get_or-set_other xs i k x no_amounts (λ same. omega arith))) (earlier k low))
      (λ high.
      let same : i ≡ k = omega arith in
      subst (λ n. P n (get_or (set xs i x) n no_amounts)) same (subst (P i) (sym (get_or-set_same xs i x no_amounts in')) here))
      (cases_lt k i)
