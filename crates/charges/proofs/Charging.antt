-- An interval, from its columns. Assumes nothing.
use Rattle.std.proofs.Common.{◌≡◌, ℕ, List, map, length, drop, Some, None, ℤ, neg_ℤ, ◌+ℤ◌, refl, ap, subst, ◌∙◌}
use Rattle.std.specs.List.{All}
use Rattle.std.proofs.lemmas.List.{drop-replicate, length-replicate}
use Rattle.sharing.specs.Laws.{total}
use Rattle.tables.specs.Refusals.{Fit, first_fit}
use Rattle.tables.proofs.Firsts.{first_fit-append, first_fit-front}
use Rattle.rows.specs.declared.figures.Cents.{Cents}
use Rattle.rows.specs.declared.area.Area.{Area}
use Rattle.rows.specs.declared.party.Party.{Party}
use Rattle.rows.specs.declared.resource.Resource.{Resource}
use Rattle.formulas.specs.Surcharge.{area_pool}
use Rattle.records.specs.Ranges.{most_parties}
use Rattle.charges.specs.declared.amounts.IntervalAmounts.{IntervalAmounts}
use Rattle.charges.specs.declared.fault.ChargeFault.{ChargeFault}
use Rattle.charges.specs.Columns.{cents_in, weights}
use Rattle.charges.specs.Amounts.{amount_6470, amount_6474, amount_6475, offset_pool, balance, column, cents, rest, no_cents, no_column}
use Rattle.charges.specs.Faults.{offset_fault_of, surcharge_fault, interval_faults}
use Rattle.charges.specs.Charged.{offset_shares_of, IntervalCharged}
use Rattle.charges.proofs.Totals.{total_of_sums, total_of_column}

-- what gives back the three columns is the pool of CC 6477
offset_of_columns : (resources : List Resource) (parties : List Party) (index : ℕ) (a b c : List Cents)
    → a ≡ column (amount_6470 resources index) parties → b ≡ column (amount_6474 index) parties → c ≡ column (amount_6475 index) parties
    → neg_ℤ (total (cents a) +ℤ total (cents b) +ℤ total (cents c)) ≡ offset_pool resources parties index
unfolding offset_pool
offset_of_columns resources parties index a b c a_is b_is c_is =
    let f = amount_6470 resources index in
    let g = amount_6474 index in
    let h = amount_6475 index in
    let sums : total (map (λ p. f p +ℤ g p +ℤ h p) parties) ≡ total (map f parties) +ℤ total (map g parties) +ℤ total (map h parties) =
    total_of_sums (λ p. f p +ℤ g p) h parties ∙ ap (λ z. z +ℤ total (map h parties)) (total_of_sums f g parties) in
    rw (a_is, b_is, c_is, total_of_column f parties, total_of_column g parties, total_of_column h parties, sums) refl

-- What is known of an interval on the way: its three columns, the pool that follows, and the faults met so far.
module _ (areas : List Area) (parties : List Party) (resources : List Resource) (index : ℕ) (x : IntervalAmounts)
    (cc_6470 : x.cc_6470 ≡ column (amount_6470 resources index) parties) (cc_6474 : x.cc_6474 ≡ column (amount_6474 index) parties) (cc_6475 : x.cc_6475 ≡ column (amount_6475 index) parties)
    (offset : x.offset.0 ≡ neg_ℤ (total (cents x.cc_6470) +ℤ total (cents x.cc_6474) +ℤ total (cents x.cc_6475))) where
  pool : x.offset.0 ≡ offset_pool resources parties index
  pool = offset ∙ offset_of_columns resources parties index x.cc_6470 x.cc_6474 x.cc_6475 cc_6470 cc_6474 cc_6475

  abbrev faults : ℤ → List (Fit ChargeFault)
  faults z = map (offset_fault_of z parties index) areas

  abbrev later : List (Fit ChargeFault)
  later = map (surcharge_fault parties index) areas

  -- the offset is refused
  pub offset_refused : (f : ChargeFault) → first_fit (faults x.offset.0) ≡ Some f → first_fit (interval_faults areas parties resources index) ≡ Some f
  offset_refused f refused = first_fit-front (faults (offset_pool resources parties index)) later f (subst (λ z. first_fit (faults z) ≡ Some f) pool refused)

  module _ (shared : first_fit (faults x.offset.0) ≡ None) where
    -- then what is met of the surcharges is met of the interval
    pub surcharges_met : first_fit (interval_faults areas parties resources index) ≡ first_fit later
    surcharges_met = first_fit-append (faults (offset_pool resources parties index)) later (subst (λ z. first_fit (faults z) ≡ None) pool shared)

  -- all is worked out
  pub charged : {shares : ℤ → List ℕ → List ℤ} → All (λ a. cents_in a.id parties x.cc_6477 ≡ offset_shares_of shares x.offset.0 parties index a) areas → drop (length parties) x.cc_6477 ≡ drop (length parties) no_column → length x.cc_6477 ≡ length no_column
      → All (λ a. cents_in a.id parties x.cc_6476 ≡ shares (area_pool index a) (weights index a parties)) areas → drop (length parties) x.cc_6476 ≡ drop (length parties) no_column → length x.cc_6476 ≡ length no_column
      → x.balance.0 ≡ balance areas index → IntervalCharged shares areas parties resources index x
  charged {shares} cc_6477 cc_6477_rest cc_6477_long cc_6476 cc_6476_rest cc_6476_long balance_is =
      let rest_is : drop (length parties) no_column ≡ rest parties = drop-replicate (length parties) most_parties no_cents in
      record {
        cc_6470 = cc_6470;
        cc_6474 = cc_6474;
        cc_6475 = cc_6475;
        cc_6476 = cc_6476;
        cc_6476_rest = cc_6476_rest ∙ rest_is;
        cc_6476_long = cc_6476_long ∙ length-replicate most_parties no_cents;
        offset_is = pool;
        cc_6477 = subst (λ z. All (λ a. cents_in a.id parties x.cc_6477 ≡ offset_shares_of shares z parties index a) areas) pool cc_6477;
        cc_6477_rest = cc_6477_rest ∙ rest_is;
        cc_6477_long = cc_6477_long ∙ length-replicate most_parties no_cents;
        balance_is = balance_is;
      }
