-- Every book is as `Kept` says. Assumes nothing.
use Rattle.std.proofs.Common.{◌≡◌, ℕ, ◌+◌, ◌<◌, ◌≤◌, List, [], ◌++◌, length, ℤ, None, Some, Option, Result, replicate, unsigned_abs, refl, sym, subst, ◌∙◌, arith}
use Rattle.std.proofs.lemmas.List.{get_or-replicate, length-map}
use Rattle.std.proofs.lemmas.List.Elements.{All-replicate}
use Rattle.sharing.specs.Laws.{Lawful}
use Rattle.tables.specs.declared.refusal.Reason.{Reason}
use Rattle.tables.specs.declared.refusal.Refusal.{Refusal}
use Rattle.tables.specs.Refusals.{first_fit, state_after}
use Rattle.deemed.specs.Ranges.{hour_length}
use Rattle.records.specs.declared.call.Call.{Call}
use Rattle.records.specs.Ranges.{most_parties}
use Rattle.records.specs.Hours.{party_id}
use Rattle.records.specs.Calls.{reasons, made_by}
use Rattle.records.proofs.SoundAfter.{steps_keep_sound}
use Rattle.charges.specs.declared.amounts.IntervalAmounts.{IntervalAmounts}
use Rattle.charges.specs.declared.amounts.HourAmounts.{HourAmounts}
use Rattle.charges.specs.declared.code.ChargeCode.{ChargeCode}
use Rattle.charges.specs.declared.code.ChargeCode.TheVariants.{Cc6470, Cc6474, Cc6475, Cc6476, Cc6477}
use Rattle.charges.specs.Amounts.{no_cents, no_amounts}
use Rattle.charges.specs.Codes.{column_under}
use Rattle.charges.specs.Faults.{hour_faults}
use Rattle.charges.specs.Charged.{Bounded, IntervalLaws, HourCharged, HourLaws, renewed, at_index}
use Rattle.charges.specs.Ranges.{most_amount}
use Rattle.charges.proofs.Determined.{alike_itself}
use Rattle.statement.specs.declared.run.Run.{Run}
use Rattle.statement.specs.declared.statement.Statement.{Statement}
use Rattle.statement.specs.Lines.{total_of, changes, come_to, billed, tally, new_lines}
use Rattle.statement.specs.Small.{at, Small, AllSmall}
use Rattle.statement.specs.Statements.{opened, ids, with_records, taken, with_run, Settled}
use Rattle.statement.specs.Histories.History.{opening, call, settle}
use Rattle.statement.specs.Tallies.{Tallied, Kept}
use Rattle.statement.proofs.Known.{Apart, Behind}
use Rattle.statement.proofs.KnownIds.{unbilled}
use Rattle.statement.proofs.SameChanges.{same_changes}
use Rattle.statement.proofs.Columns.{come_to_tallied, charged_behind, tallied_of}
use Rattle.statement.proofs.IntervalTotals.{grown_tallied}
use Rattle.statement.proofs.NewLines.{agrees_after}
use Rattle.statement.proofs.Reaching.{apart_ids, reached}

-- no amounts are small
no_amounts_small : Small no_amounts
no_amounts_small =
    let none : Bounded (replicate most_parties no_cents) = All-replicate (λ c. unsigned_abs c.0 ≤ most_amount) most_parties no_cents (omega arith) in
    record { columns = each none; balance = omega arith }
  where
    each : Bounded (replicate most_parties no_cents) → (code : ChargeCode) → Bounded (column_under code no_amounts)
    each none Cc6470 = none
    each none Cc6474 = none
    each none Cc6475 = none
    each none Cc6476 = none
    each none Cc6477 = none

-- no line and no party come to no amounts
no_amounts_tallied : (place : ℕ) → Tallied [] [] place no_amounts
unfolding total_of
no_amounts_tallied place = record { parties = each; balance = refl }
  where
    each : (code : ChargeCode) → column_under code no_amounts ≡ tally (billed [] code place) []
    each Cc6470 = refl
    each Cc6474 = refl
    each Cc6475 = refl
    each Cc6476 = refl
    each Cc6477 = refl

pub kept_opened : (areas parties resources lines : ℕ) → Kept (opened areas parties resources lines) (replicate hour_length no_amounts)
kept_opened areas parties resources lines =
    let none : (place : ℕ) → place < hour_length → at (replicate hour_length no_amounts) place ≡ no_amounts = λ place inside. get_or-replicate hour_length place no_amounts no_amounts inside in
    record {
      history = opening areas parties resources lines;
      small = λ place inside. subst Small (sym (none place inside)) no_amounts_small;
      tallied = λ place inside. subst (Tallied [] [] place) (sym (none place inside)) (no_amounts_tallied place);
    }

pub kept_taken : (c : Call) (b : Statement) (totals : List IntervalAmounts) → Kept b totals → Kept (taken c b) totals
kept_taken c b totals kept = record {
  history = call c kept.history;
  small = kept.small;
  tallied = λ place inside. either place (kept.tallied place inside) (first_fit (reasons c b.records)) refl;
}
  where
    -- accepted, it may add parties, of which nothing has been billed
    accepted : (place : ℕ) → Tallied b.lines.rows (ids b) place (at totals place) → first_fit (reasons c b.records) ≡ None
        → Tallied b.lines.rows (ids (with_records (made_by c b.records) b)) place (at totals place)
    accepted place tallied e =
        let after : Statement = with_records (made_by c b.records) b in
        let before = reached b kept.history in
        let lasts = steps_keep_sound b.records after.records (record { call = c; accepted = e; made = refl }) before.sound in
        let more = lasts.1.parties.0 in
        let grown = lasts.1.parties.1 in
        let apart : Apart (ids b ++ more) = subst Apart grown (apart_ids after lasts.0) in
        rw grown (grown_tallied b.lines.rows (ids b) more apart.few place (unbilled (ids b) more apart b.lines.rows before.accounts place) (at totals place) tallied)

    either : (place : ℕ) → Tallied b.lines.rows (ids b) place (at totals place) → (o : Option Reason) → first_fit (reasons c b.records) ≡ o
        → let after : Statement = state_after o (with_records (made_by c b.records) b) b in Tallied after.lines.rows (ids after) place (at totals place)
    either place tallied None e = accepted place tallied e
    either place tallied (Some r) e = tallied

-- the laws of amounts bound them
pub small_amounts : (shares : ℤ → List ℕ → List ℤ) (b : Statement) (a : HourAmounts) → HourLaws b.records (renewed shares b.records) a → AllSmall a.intervals
small_amounts shares b a laws place inside =
    let here = laws.intervals place inside in
    record { columns = each here; balance = here.bounded_balance }
  where
    each : IntervalLaws b.records.areas.rows b.records.parties.rows (renewed shares b.records) place (at_index a place) → (code : ChargeCode) → Bounded (column_under code (at a.intervals place))
    each here Cc6470 = here.bounded_6470
    each here Cc6474 = here.bounded_6474
    each here Cc6475 = here.bounded_6475
    each here Cc6476 = here.bounded_6476
    each here Cc6477 = here.bounded_6477

-- the running totals are what the lines come to
pub changes_by_totals : (b : Statement) (totals : List IntervalAmounts) → Kept b totals → (run : ℕ) (a : HourAmounts)
    → changes run (at a.intervals) (at totals) (ids b) hour_length ≡ changes run (at a.intervals) (come_to b.lines.rows (ids b)) (ids b) hour_length
unfolding come_to
changes_by_totals b totals kept run a =
    same_changes run (at a.intervals) (at a.intervals) (at totals) (come_to b.lines.rows (ids b)) (ids b) hour_length (λ place inside. alike_itself (at a.intervals place))
    (λ place inside.
    let tallied = kept.tallied place inside in
    record { columns = λ code. tallied.parties code ∙ sym ((come_to_tallied b.lines.rows (ids b) place).parties code); balance = tallied.balance })

-- an accepted settle
pub kept_run : {shares : ℤ → List ℕ → List ℤ} → Lawful shares → (b : Statement) (totals : List IntervalAmounts) → Kept b totals → (a : HourAmounts) (r : Result Run Refusal)
    → first_fit (hour_faults shares b.records.areas.rows b.records.parties.rows b.records.resources.rows) ≡ None → HourCharged shares b.records a → HourLaws b.records (renewed shares b.records) a
    → Settled shares b (with_run shares a b) r → Kept (with_run shares a b) a.intervals
kept_run {shares} lawful b totals kept a r unrefused charged laws settled =
    let sound = (reached b kept.history).sound in
    let apart : Apart (ids b) = apart_ids b sound in
    let lines = b.lines.rows in
    let long : length (ids b) ≡ length b.records.parties.rows = length-map b.records.parties.rows party_id in
    let few : length b.records.parties.rows ≤ most_parties = omega (arith, apart.few) in
    record {
      history = settle lawful settled kept.history;
      small = small_amounts shares b a laws;
      tallied = λ place inside.
          let behind : Behind (length (ids b)) (at_index a place) = subst (λ n. Behind n (at_index a place)) (sym long) (charged_behind (charged.intervals place inside) few) in
          tallied_of (lines ++ new_lines (b.runs + 1) lines (ids b) a) (ids b) place (at_index a place) apart.few behind
          (agrees_after (b.runs + 1) lines (ids b) a apart place inside);
    }
