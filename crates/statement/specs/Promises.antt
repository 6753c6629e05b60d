-- What is true of a statement, whatever calls led to it. Assumes nothing.
use Rattle.std.specs.Prelude.{◌≡◌, ◌≢◌, ℕ, ◌<◌, ◌≤◌, true, false, is_some, List, map, length, ℤ, pos, sum, Result}
use Rattle.std.specs.List.{All, AllPairs}
use Rattle.sharing.specs.Laws.{total}
use Rattle.tables.specs.declared.refusal.Refusal.{Refusal}
use Rattle.deemed.specs.Ranges.{hour_length}
use Rattle.deemed.specs.Pools.{NearPart}
use Rattle.rows.specs.Kinds.{is_ciso}
use Rattle.formulas.specs.Surcharge.{area_pool}
use Rattle.records.specs.Hours.{party_of}
use Rattle.records.specs.Sound.{Sound}
use Rattle.charges.specs.declared.code.ChargeCode.TheVariants.{Cc6470, Cc6474, Cc6475, Cc6476, Cc6477}
use Rattle.charges.specs.Codes.{charge_code_number}
use Rattle.charges.specs.Columns.{parties_in, weight, weights}
use Rattle.charges.specs.Amounts.{amount_6470, amount_6474, amount_6475, offset_pool, balance}
use Rattle.charges.specs.Energies.{EnergyLaws}
use Rattle.statement.specs.declared.line.Line.{Line}
use Rattle.statement.specs.declared.run.Run.{Run}
use Rattle.statement.specs.declared.statement.Statement.{Statement}
use Rattle.statement.specs.Ranges.{most_lines, most_runs}
use Rattle.statement.specs.Lines.{total_of, surcharge_in, other_in, under, billed}
use Rattle.statement.specs.Statements.{Settled}
use Rattle.statement.specs.Histories.{History}

-- a line that one of so many runs has added; account 0 has lines under CC 6476 alone
pub record IsLine (runs : ℕ) (l : Line) : Type 0 where
  pub of_run : (1 ≤ l.run) × (l.run ≤ runs)
  pub of_interval : (1 ≤ l.interval) × (l.interval ≤ hour_length)
  pub of_0 : l.account ≡ 0 → l.code ≡ Cc6476
  pub bills : l.cents.0 ≢ pos 0

-- An earlier line and a later one: runs rise, in a run intervals, and of an account the codes. So no run has two lines of one account in an
-- interval under one code.
pub record InTurn (l m : Line) : Type 0 where
  pub runs : l.run ≤ m.run
  pub intervals : l.run ≡ m.run → l.interval ≤ m.interval
  pub codes : l.run ≡ m.run → l.interval ≡ m.interval → l.account ≡ m.account → charge_code_number l.code < charge_code_number m.code

-- the lines are those of the runs, in turn, and no more than there is room for; nor are there more runs than there may be
pub record SoundLines (b : Statement) : Type 0 where
  pub each : All (IsLine b.runs) b.lines.rows
  -- an account that is not 0 is that of a party that is entered
  pub accounts : All (λ l. l.account ≢ 0 → is_some (party_of b.records l.account) ≡ true) b.lines.rows
  pub in_turn : AllPairs InTurn b.lines.rows
  pub fit : length b.lines.rows ≤ b.lines.most
  pub bound : b.lines.most ≤ most_lines
  pub counted : b.runs ≤ most_runs

-- each run balances in each interval: its lines under CC 6476 total 0, and those under all other codes together do too
pub record Balances (b : Statement) : Type 0 where
  pub surcharges : (run interval : ℕ) → total_of (surcharge_in run interval) b.lines.rows ≡ pos 0
  pub others : (run interval : ℕ) → total_of (other_in run interval) b.lines.rows ≡ pos 0

-- In an interval, by its place from 0: each party has been billed what its records and its ties' deemed energies give.
pub record BilledInFull (b : Statement) (place : ℕ) : Type 0 where
  pub cc_6470 : All (λ p. billed b.lines.rows Cc6470 place p.id ≡ amount_6470 b.records.resources.rows place p) b.records.parties.rows
  pub cc_6474 : All (λ p. billed b.lines.rows Cc6474 place p.id ≡ amount_6474 place p) b.records.parties.rows
  pub cc_6475 : All (λ p. billed b.lines.rows Cc6475 place p.id ≡ amount_6475 place p) b.records.parties.rows

-- In an interval, the pools are billed, in parts that are right.
pub record PoolsPaid (b : Statement) (place : ℕ) : Type 0 where
  -- the lines of an area's parties under CC 6476 total its pool
  pub surcharges : All (λ a. total (map (λ p. billed b.lines.rows Cc6476 place p.id) (parties_in a.id b.records.parties.rows)) ≡ area_pool place a) b.records.areas.rows
  -- all lines under CC 6477 total the pool of the offset
  pub offset : total_of (under Cc6477 place) b.lines.rows ≡ offset_pool b.records.resources.rows b.records.parties.rows place
  -- each party that shares a pool has been billed its exact part, but for less than a cent, and nothing where no party weighs
  pub surcharge_parts : All (λ a. All (λ p. NearPart (area_pool place a) (sum (weights place a b.records.parties.rows)) (weight a.kind place p) (billed b.lines.rows Cc6476 place p.id)) (parties_in a.id b.records.parties.rows)) b.records.areas.rows
  pub offset_parts : All (λ a. is_ciso a.kind ≡ true → All (λ p. NearPart (offset_pool b.records.resources.rows b.records.parties.rows place) (sum (weights place a b.records.parties.rows)) (weight a.kind place p) (billed b.lines.rows Cc6477 place p.id)) (parties_in a.id b.records.parties.rows)) b.records.areas.rows
  -- a party of a WEIM area has been billed nothing under CC 6477
  pub no_offset : All (λ a. is_ciso a.kind ≡ false → All (λ p. billed b.lines.rows Cc6477 place p.id ≡ pos 0) (parties_in a.id b.records.parties.rows)) b.records.areas.rows
  -- and account 0 has been billed the other side of all areas' pools of CC 6476
  pub account_0 : billed b.lines.rows Cc6476 place 0 ≡ balance b.records.areas.rows place

pub record Promises (b : Statement) : Type 0 where
  -- the records are as those of every hour
  pub sound : Sound b.records
  pub lines : SoundLines b
  pub balances : Balances b
  -- where it stands settled
  pub billed : b.settled ≡ true → (place : ℕ) → place < hour_length → BilledInFull b place
  pub pools : b.settled ≡ true → (place : ℕ) → place < hour_length → PoolsPaid b place
  -- a tie's deemed energies total what its tags schedule, each but for less than a unit its exact part
  pub energies : b.settled ≡ true → All (λ r. EnergyLaws r r.deemed) b.records.resources.rows

-- the law over every history
abbrev pub HistoriesKeepPromises : Type 0
HistoriesKeepPromises = (b : Statement) → History b → Promises b

-- a settle has one outcome: the statement and the rule's meaning leave no choice
abbrev pub OneOutcome : Type 0
OneOutcome =
    (shares : ℤ → List ℕ → List ℤ) (before one other : Statement) (r s : Result Run Refusal) → History before
    → Settled shares before one r → Settled shares before other s → (one ≡ other) × (r ≡ s)
