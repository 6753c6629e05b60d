-- An hour worked out by a rule that means `shares`, and what holds of it whatever the rule. Assumes nothing.
use Rattle.std.specs.Prelude.{◌≡◌, ℕ, ◌-◌, ◌<◌, ◌≤◌, true, cond, List, ◌++◌, map, length, drop, replicate, Some, None, ℤ, pos, ◌+ℤ◌, Result, Ok, Err, slice_index_or, unsigned_abs}
use Rattle.std.specs.List.{All, zip}
use Rattle.sharing.specs.Laws.{total}
use Rattle.tables.specs.Refusals.{first_fit}
use Rattle.deemed.specs.Ranges.{hour_length}
use Rattle.rows.specs.declared.figures.Cents.{Cents}
use Rattle.rows.specs.declared.area.Area.{Area}
use Rattle.rows.specs.declared.party.Party.{Party}
use Rattle.rows.specs.declared.resource.Resource.{Resource}
use Rattle.rows.specs.Kinds.{is_ciso}
use Rattle.rows.specs.Figures.{as_deemed, no_units}
use Rattle.formulas.specs.Surcharge.{area_pool}
use Rattle.records.specs.View.{Hour}
use Rattle.records.specs.Ranges.{most_parties, most_resources}
use Rattle.charges.specs.declared.amounts.IntervalAmounts.{IntervalAmounts}
use Rattle.charges.specs.declared.amounts.HourAmounts.{HourAmounts}
use Rattle.charges.specs.declared.fault.ChargeFault.{ChargeFault}
use Rattle.charges.specs.Columns.{parties_in, cents_in, weights}
use Rattle.charges.specs.Energies.{energies_by_kind, new_energies, with_new_energies, counts, EnergyLaws}
use Rattle.charges.specs.Amounts.{amount_6470, amount_6474, amount_6475, offset_pool, balance, column, cents, rest, no_amounts}
use Rattle.charges.specs.Parts.{AreNearParts}
use Rattle.charges.specs.Ranges.{most_amount}
use Rattle.charges.specs.Faults.{interval_faults, hour_faults}

-- the shares of an area's parties in a pool of offset: those of a WEIM area have none
abbrev pub offset_shares_of : (ℤ → List ℕ → List ℤ) → ℤ → List Party → ℕ → Area → List ℤ
offset_shares_of shares pool parties index a =
    cond (is_ciso a.kind) (shares pool (weights index a parties)) (map (λ _. pos 0) (parties_in a.id parties))

abbrev pub offset_shares : (ℤ → List ℕ → List ℤ) → List Resource → List Party → ℕ → Area → List ℤ
offset_shares shares resources parties index a = offset_shares_of shares (offset_pool resources parties index) parties index a

-- the amounts of an interval, by its index from 0
pub record IntervalCharged (shares : ℤ → List ℕ → List ℤ) (areas : List Area) (parties : List Party)
    (resources : List Resource) (index : ℕ) (x : IntervalAmounts) : Type 0 where
  pub cc_6470 : x.cc_6470 ≡ column (amount_6470 resources index) parties
  pub cc_6474 : x.cc_6474 ≡ column (amount_6474 index) parties
  pub cc_6475 : x.cc_6475 ≡ column (amount_6475 index) parties
  -- the parties of each area share its pool
  pub cc_6476 : All (λ a. cents_in a.id parties x.cc_6476 ≡ shares (area_pool index a) (weights index a parties)) areas
  pub cc_6476_rest : drop (length parties) x.cc_6476 ≡ rest parties
  pub cc_6476_long : length x.cc_6476 ≡ most_parties
  -- those of the CISO area share the offset
  pub cc_6477 : All (λ a. cents_in a.id parties x.cc_6477 ≡ offset_shares shares resources parties index a) areas
  pub cc_6477_rest : drop (length parties) x.cc_6477 ≡ rest parties
  pub cc_6477_long : length x.cc_6477 ≡ most_parties
  pub offset_is : x.offset.0 ≡ offset_pool resources parties index
  pub balance_is : x.balance.0 ≡ balance areas index

-- worked out where no fault fits, and else refused by the first that does
abbrev pub IntervalWorkedOut : (ℤ → List ℕ → List ℤ) → List Area → List Party → List Resource → ℕ
    → Result IntervalAmounts ChargeFault → Type 0
IntervalWorkedOut shares areas parties resources index (Ok x) =
    (first_fit (interval_faults areas parties resources index) ≡ None)
    × IntervalCharged shares areas parties resources index x
IntervalWorkedOut shares areas parties resources index (Err f) =
    first_fit (interval_faults areas parties resources index) ≡ Some f

-- no larger than the largest amount
abbrev pub Bounded : List Cents → Type 0
Bounded column = All (λ c. unsigned_abs c.0 ≤ most_amount) column

-- what holds of the amounts of an interval, whatever the rule
pub record IntervalLaws (areas : List Area) (parties : List Party) (resources : List Resource) (index : ℕ)
    (x : IntervalAmounts) : Type 0 where
  -- the amounts under CC 6476 total 0, account 0's among them, and those under all other codes do too
  pub surcharges_balance : total (cents x.cc_6476) +ℤ x.balance.0 ≡ pos 0
  pub others_balance :
      total (cents x.cc_6470) +ℤ total (cents x.cc_6474) +ℤ total (cents x.cc_6475) +ℤ total (cents x.cc_6477) ≡ pos 0
  -- an area's parties have its pool, and all parties the offset
  pub surcharges_paid : All (λ a. total (cents_in a.id parties x.cc_6476) ≡ area_pool index a) areas
  pub offset_paid : total (cents x.cc_6477) ≡ offset_pool resources parties index
  -- each party that shares a pool is less than a cent off its exact part
  pub surcharges_near : All (λ a. AreNearParts index (area_pool index a) a parties x.cc_6476) areas
  pub offset_near :
      All (λ a. is_ciso a.kind ≡ true → AreNearParts index (offset_pool resources parties index) a parties x.cc_6477) areas
  -- no amount is so large that a difference of two does not fit
  pub bounded_6470 : Bounded x.cc_6470
  pub bounded_6474 : Bounded x.cc_6474
  pub bounded_6475 : Bounded x.cc_6475
  pub bounded_6476 : Bounded x.cc_6476
  pub bounded_6477 : Bounded x.cc_6477
  pub bounded_balance : unsigned_abs x.balance.0 ≤ most_amount

-- the resources of an hour, with their new deemed energies
abbrev pub renewed : (ℤ → List ℕ → List ℤ) → Hour → List Resource
renewed shares h = map (with_new_energies shares) h.resources.rows

abbrev pub at_index : HourAmounts → ℕ → IntervalAmounts
at_index a index = slice_index_or a.intervals index no_amounts

-- the amounts of an hour
pub record HourCharged (shares : ℤ → List ℕ → List ℤ) (h : Hour) (a : HourAmounts) : Type 0 where
  pub energies :
      a.deemed ≡ map (new_energies shares) h.resources.rows
      ++ replicate (most_resources - length h.resources.rows) (replicate hour_length (as_deemed no_units))
  -- as numbers they are the shares, or what the tags schedule: none is outside the range of the figures
  pub exact : All (λ x. counts x.1 ≡ energies_by_kind shares x.0.kind x.0) (zip h.resources.rows a.deemed)
  pub intervals : (index : ℕ) → index < hour_length
      → IntervalCharged shares h.areas.rows h.parties.rows (renewed shares h) index (at_index a index)

-- what holds of them, whatever the rule, where the resources are as these
pub record HourLaws (h : Hour) (resources : List Resource) (a : HourAmounts) : Type 0 where
  pub energies : All (λ x. EnergyLaws x.0 x.1) (zip h.resources.rows a.deemed)
  pub intervals : (index : ℕ) → index < hour_length
      → IntervalLaws h.areas.rows h.parties.rows resources index (at_index a index)

-- worked out where no fault fits, and else refused by the first that does
abbrev pub WorkedOut : (ℤ → List ℕ → List ℤ) → Hour → Result HourAmounts ChargeFault → Type 0
WorkedOut shares h (Ok a) =
    (first_fit (hour_faults shares h.areas.rows h.parties.rows h.resources.rows) ≡ None)
    × HourCharged shares h a
    × HourLaws h (renewed shares h) a
WorkedOut shares h (Err f) = first_fit (hour_faults shares h.areas.rows h.parties.rows h.resources.rows) ≡ Some f
