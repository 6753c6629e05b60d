-- Lines, what they come to, and those that a run adds. Assumes nothing.
use Rattle.std.specs.Prelude.{ℕ, ◌+◌, ◌-◌, ◌==◌, Bool, not, ◌&&◌, List, [], ◌∷◌, ◌++◌, map, filter, length, replicate, ℤ, pos, ◌-ℤ◌, slice_index, slice_index_or}
use Rattle.std.specs.List.{flat_map}
use Rattle.std.specs.Ordering.{int_eq}
use Rattle.sharing.specs.Laws.{total}
use Rattle.deemed.specs.Ranges.{hour_length}
use Rattle.rows.specs.declared.figures.Cents.{Cents}
use Rattle.records.specs.Ranges.{most_parties}
use Rattle.charges.specs.declared.amounts.IntervalAmounts.{IntervalAmounts}
use Rattle.charges.specs.declared.amounts.HourAmounts.{HourAmounts}
use Rattle.charges.specs.declared.code.ChargeCode.{ChargeCode}
use Rattle.charges.specs.declared.code.ChargeCode.TheVariants.{Cc6470, Cc6474, Cc6475, Cc6476, Cc6477}
use Rattle.charges.specs.Amounts.{no_cents}
use Rattle.charges.specs.Codes.{all_codes, charge_code_number, column_under}
use Rattle.charges.specs.Faults.{first_indices}
use Rattle.charges.specs.Charged.{at_index}
use Rattle.statement.specs.declared.line.Line.{Line}

abbrev pub same_code : ChargeCode → ChargeCode → Bool
same_code a b = charge_code_number a == charge_code_number b

abbrev pub is_surcharge : ChargeCode → Bool
is_surcharge code = same_code code Cc6476

-- what the lines come to that pass a test
unfoldable pub total_of : (Line → Bool) → List Line → ℤ
total_of test lines = total (map (λ l. l.cents.0) (filter test lines))

-- the lines of a run in an interval, by its number, under CC 6476, and those under all other codes
abbrev pub surcharge_in : ℕ → ℕ → Line → Bool
surcharge_in run interval l = l.run == run && (l.interval == interval && is_surcharge l.code)

abbrev pub other_in : ℕ → ℕ → Line → Bool
other_in run interval l = l.run == run && (l.interval == interval && not (is_surcharge l.code))

-- the lines in an interval, by its place from 0, under a code
abbrev pub under : ChargeCode → ℕ → Line → Bool
under code place l = l.interval == place + 1 && same_code l.code code

-- those of an account
abbrev pub key : ChargeCode → ℕ → ℕ → Line → Bool
key code place account l = l.account == account && under code place l

-- what an account has been billed under a code in an interval, by its place from 0
abbrev pub billed : List Line → ChargeCode → ℕ → ℕ → ℤ
billed lines code place account = total_of (key code place account) lines

-- what stands at a place of a column
abbrev pub cents_at : List Cents → ℕ → ℤ
cents_at column i = (slice_index_or column i no_cents).0

-- a line of a run, in an interval by its place from 0
abbrev pub line : ℕ → ℕ → ℕ → ChargeCode → ℤ → Line
line run place account code cents =
    record { run = run; interval = place + 1; account = account; code = code; cents = record { 0 = cents } }

-- a column with a number for each id, and 0 behind them
abbrev pub tally : (ℕ → ℤ) → List ℕ → List Cents
tally f ids = map (λ id. record { 0 = f id }) ids ++ replicate (most_parties - length ids) no_cents

-- What lines come to in an interval, as amounts: for each party, by its id, and for account 0. They tell no pool.
unfoldable pub come_to : List Line → List ℕ → ℕ → IntervalAmounts
come_to lines ids place = record {
  cc_6470 = tally (billed lines Cc6470 place) ids;
  cc_6474 = tally (billed lines Cc6474 place) ids;
  cc_6475 = tally (billed lines Cc6475 place) ids;
  cc_6476 = tally (billed lines Cc6476 place) ids;
  cc_6477 = tally (billed lines Cc6477 place) ids;
  offset = no_cents;
  balance = record { 0 = billed lines Cc6476 place 0 };
}

-- What a run changes in an interval, by its place from 0: each new amount less the earlier one. For the party at a place, by its id,
-- with codes rising;
unfoldable pub party_changes : ℕ → ℕ → IntervalAmounts → IntervalAmounts → ℕ → ℕ → List Line
party_changes run place new earlier i id =
    map (λ code. line run place id code (cents_at (column_under code new) i -ℤ cents_at (column_under code earlier) i)) all_codes

-- for the parties at the first so many places;
unfoldable pub parties_changes : ℕ → ℕ → IntervalAmounts → IntervalAmounts → List ℕ → ℕ → List Line
parties_changes run place new earlier ids n = flat_map (λ i. party_changes run place new earlier i (slice_index ids i)) (first_indices n)

-- for account 0;
abbrev pub balance_change : ℕ → ℕ → IntervalAmounts → IntervalAmounts → Line
balance_change run place new earlier = line run place 0 Cc6476 (new.balance.0 -ℤ earlier.balance.0)

-- for all parties, in the order entered, and then account 0;
unfoldable pub interval_changes : ℕ → ℕ → IntervalAmounts → IntervalAmounts → List ℕ → List Line
interval_changes run place new earlier ids = parties_changes run place new earlier ids (length ids) ++ balance_change run place new earlier ∷ []

-- and that in the first so many intervals.
unfoldable pub changes : ℕ → (ℕ → IntervalAmounts) → (ℕ → IntervalAmounts) → List ℕ → ℕ → List Line
changes run new earlier ids n = flat_map (λ place. interval_changes run place (new place) (earlier place) ids) (first_indices n)

-- a change of 0 is no line
abbrev pub is_billed : Line → Bool
is_billed l = not (int_eq l.cents.0 (pos 0))

-- the lines that a run adds to earlier ones
abbrev pub new_lines : ℕ → List Line → List ℕ → HourAmounts → List Line
new_lines run lines ids a = filter is_billed (changes run (at_index a) (come_to lines ids) ids hour_length)
