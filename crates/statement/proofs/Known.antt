-- The words of the proofs over lines and histories. Assumes nothing.
use Rattle.std.proofs.Common.{◌≡◌, ◌≢◌, ℕ, ◌-◌, ◌<◌, ◌≤◌, ◌==◌, Bool, true, not, cond, ◌||◌, List, map, length, replicate, drop, ℤ, pos, ◌+ℤ◌, slice_index}
use Rattle.std.specs.List.{All, AllPairs, list_any}
use Rattle.sharing.specs.Laws.{total}
use Rattle.deemed.specs.Ranges.{hour_length}
use Rattle.records.specs.Ranges.{most_parties}
use Rattle.records.specs.Sound.{Sound}
use Rattle.charges.specs.declared.amounts.IntervalAmounts.{IntervalAmounts}
use Rattle.charges.specs.declared.amounts.HourAmounts.{HourAmounts}
use Rattle.charges.specs.declared.code.ChargeCode.{ChargeCode}
use Rattle.charges.specs.declared.code.ChargeCode.TheVariants.{Cc6476, Cc6477}
use Rattle.charges.specs.Amounts.{no_cents}
use Rattle.charges.specs.Codes.{all_codes, column_under}
use Rattle.charges.specs.Energies.{EnergyLaws}
use Rattle.charges.specs.Faults.{first_indices}
use Rattle.charges.specs.Charged.{IntervalCharged, IntervalLaws, at_index}
use Rattle.statement.specs.declared.line.Line.{Line}
use Rattle.statement.specs.declared.statement.Statement.{Statement}
use Rattle.statement.specs.Ranges.{most_lines, most_runs}
use Rattle.statement.specs.Lines.{total_of, under, billed, come_to, cents_at, is_surcharge, same_code}
use Rattle.statement.specs.Statements.{ids}
use Rattle.statement.specs.Promises.{IsLine, InTurn, Balances}
use Rattle.statement.specs.Tallies.{Tallied}

-- an account that lines may have: 0, or that of a party
abbrev pub known : List ℕ → ℕ → Bool
known ids account = account == 0 || list_any (λ id. id == account) ids

-- no two of the ids are the same, and none is 0
pub record Apart (ids : List ℕ) : Type 0 where
  pub distinct : (i j : ℕ) → i < length ids → j < length ids → slice_index ids i ≡ slice_index ids j → i ≡ j
  pub not_0 : (i : ℕ) → i < length ids → slice_index ids i ≢ 0
  pub few : length ids ≤ most_parties

-- what the party at a place has under the codes that pass a test
unfoldable pub party_total : (ChargeCode → Bool) → IntervalAmounts → ℕ → ℤ
party_total t x i = total (map (λ code. cond (t code) (cents_at (column_under code x) i) (pos 0)) all_codes)

-- and what the first so many parties and account 0 have
unfoldable pub interval_total : (ChargeCode → Bool) → ℕ → IntervalAmounts → ℤ
interval_total t n x = total (map (party_total t x) (first_indices n)) +ℤ cond (t Cc6476) x.balance.0 (pos 0)

-- amounts are, party by party, what lines come to
pub record Agrees (lines : List Line) (ids : List ℕ) (place : ℕ) (x : IntervalAmounts) : Type 0 where
  pub parties : (code : ChargeCode) (i : ℕ) → i < length ids → cents_at (column_under code x) i ≡ billed lines code place (slice_index ids i)
  pub balance : x.balance.0 ≡ billed lines Cc6476 place 0

-- a column of the full length, with nothing behind the first so many
abbrev pub Behind : ℕ → IntervalAmounts → Type 0
Behind n x = (code : ChargeCode) → (length (column_under code x) ≡ most_parties) × (drop n (column_under code x) ≡ replicate (most_parties - n) no_cents)

-- the lines come to amounts that some rule gives, and these are as the laws want them
pub record Billed (b : Statement) : Type 0 where
  pub shares : ℤ → List ℕ → List ℤ
  pub amounts : HourAmounts
  pub tallied : (place : ℕ) → place < hour_length → Tallied b.lines.rows (ids b) place (at_index amounts place)
  pub charged : (place : ℕ) → place < hour_length → IntervalCharged shares b.records.areas.rows b.records.parties.rows b.records.resources.rows place (at_index amounts place)
  pub laws : (place : ℕ) → place < hour_length → IntervalLaws b.records.areas.rows b.records.parties.rows b.records.resources.rows place (at_index amounts place)
  pub energies : All (λ r. EnergyLaws r r.deemed) b.records.resources.rows

-- what holds along every history
pub record Reached (b : Statement) : Type 0 where
  pub sound : Sound b.records
  pub accounts : All (λ l. known (ids b) l.account ≡ true) b.lines.rows
  pub each : All (IsLine b.runs) b.lines.rows
  pub in_turn : AllPairs InTurn b.lines.rows
  pub fit : length b.lines.rows ≤ b.lines.most
  pub bound : b.lines.most ≤ most_lines
  pub counted : b.runs ≤ most_runs
  pub balances : Balances b
  -- what the lines of an interval come to balances
  pub surcharges : (place : ℕ) → place < hour_length → interval_total is_surcharge (length (ids b)) (come_to b.lines.rows (ids b) place) ≡ pos 0
  pub others : (place : ℕ) → place < hour_length → interval_total (λ c. not (is_surcharge c)) (length (ids b)) (come_to b.lines.rows (ids b) place) ≡ pos 0
  -- all lines under CC 6477 are those of the parties
  pub offset : (place : ℕ) → place < hour_length → total_of (under Cc6477 place) b.lines.rows ≡ interval_total (λ c. same_code c Cc6477) (length (ids b)) (come_to b.lines.rows (ids b) place)
  pub billed : b.settled ≡ true → Billed b
