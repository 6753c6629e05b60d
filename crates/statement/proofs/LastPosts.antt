-- What is read after any history was posted last. Assumes nothing.
use Rattle.std.proofs.Common.{◌≡◌, refl, sym, subst, ℕ, List, [], map, length, ◌≤◌, Option, Some, None, Result, ℤ, append-nil, arith}
use Rattle.std.proofs.lemmas.List.{length-map}
use Rattle.tables.specs.declared.refusal.Reason.{Reason}
use Rattle.tables.specs.declared.refusal.Refusal.{Refusal}
use Rattle.tables.specs.Refusals.{first_fit, state_after}
use Rattle.tables.proofs.Fits.{state_after_either}
use Rattle.rows.specs.declared.figures.DeemedEnergy.{DeemedEnergy}
use Rattle.rows.specs.Records.{unposted}
use Rattle.records.specs.declared.call.Call.{Call}
use Rattle.records.specs.View.{Hour}
use Rattle.records.specs.Hours.{with_deemed}
use Rattle.records.specs.Keys.{Key, read}
use Rattle.records.specs.Calls.{reasons, made_by, hour_after}
use Rattle.records.specs.Kept.{now_stands, said_by}
use Rattle.records.proofs.Deemed.{read_deemed}
use Rattle.records.proofs.Standing.{Agrees, agrees_after, agrees_opened, ends}
use Rattle.charges.specs.Energies.{new_energies}
use Rattle.statement.specs.declared.run.Run.{Run}
use Rattle.statement.specs.declared.statement.Statement.{Statement}
use Rattle.statement.specs.Statements.{taken, with_records, with_renewed, with_run, settle_reasons, Settled}
use Rattle.statement.specs.Histories.{History, opening, call, settle, last_posted, HistoriesKeepRecords}
use Rattle.statement.proofs.Renewed.{table_renewed}
use Rattle.statement.proofs.Reaching.{reached}

records_taken : (c : Call) (b : Statement) → (taken c b).records ≡ hour_after c b.records
records_taken c b = at (first_fit (reasons c b.records))
  where
    at : (o : Option Reason) → (state_after o (with_records (made_by c b.records) b) b).records ≡ state_after o (made_by c b.records) b.records
    at None = refl
    at (Some r) = refl

-- new deemed energies change nothing that is posted
read_renewed : (shares : ℤ → List ℕ → List ℤ) (h : Hour) (key : Key) → read key (with_renewed shares h) ≡ read key h
read_renewed shares h key =
    let table : List (List DeemedEnergy) = map (new_energies shares) h.resources.rows in
    let is : with_deemed table h ≡ with_renewed shares h = table_renewed shares h table [] (sym (append-nil table)) in
    let room : length h.resources.rows ≤ length table = omega (arith, length-map h.resources.rows (new_energies shares)) in
    subst (λ g. read key g ≡ read key h) is (read_deemed table h room key.kind key.id key.index)

read_settled : {shares : ℤ → List ℕ → List ℤ} {before after : Statement} {r : Result Run Refusal} → Settled shares before after r → (key : Key)
    → read key after.records ≡ read key before.records
read_settled {shares} {before} settled key =
    subst (λ b. read key b.records ≡ read key before.records) (sym settled.statement)
    (state_after_either (λ b. read key b.records ≡ read key before.records) (first_fit (settle_reasons shares settled.amounts before)) before
    (with_run shares settled.amounts before) (λ none. read_renewed shares before.records key) refl)

agrees : (key : Key) (b : Statement) (history : History b) → Agrees (unposted key.kind) (last_posted key b history) (read key b.records)
agrees key b (opening areas parties resources lines) = agrees_opened key areas parties resources
agrees key b (call {b = before} c history) =
    subst (λ h. Agrees (unposted key.kind) (now_stands (said_by key c before.records) (last_posted key before history)) (read key h))
    (sym (records_taken c before))
    (agrees_after c before.records (reached before history).sound key (last_posted key before history) (agrees key before history))
agrees key b (settle {before} {after} {shares} {r} lawful settled history) =
    subst (Agrees (unposted key.kind) (last_posted key before history)) (sym (read_settled settled key)) (agrees key before history)

pub histories_keep_records : HistoriesKeepRecords
histories_keep_records b history key = ends (unposted key.kind) (last_posted key b history) (read key b.records) (agrees key b history)
