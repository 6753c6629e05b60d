-- How a statement comes to be, call by call. Assumes nothing.
use Rattle.std.specs.Prelude.{◌≡◌, ℕ, List, ℤ, Result, IfSome}
use Rattle.sharing.specs.Laws.{Lawful}
use Rattle.tables.specs.declared.refusal.Refusal.{Refusal}
use Rattle.rows.specs.Records.{Record, unposted}
use Rattle.records.specs.declared.call.Call.{Call}
use Rattle.records.specs.Keys.{Key, read}
use Rattle.records.specs.Kept.{now_stands, said_by}
use Rattle.statement.specs.declared.run.Run.{Run}
use Rattle.statement.specs.declared.statement.Statement.{Statement}
use Rattle.statement.specs.Statements.{opened, taken, Settled}

-- Calls lead to it from an empty one: entering, posting and settle calls, accepted and refused, in any order, and each settle by any
-- lawful rule.
pub data History : Statement → Type 0 where
  opening : (areas parties resources lines : ℕ) → History (opened areas parties resources lines)
  call : {b : Statement} (c : Call) → History b → History (taken c b)
  settle : {before after : Statement} {shares : ℤ → List ℕ → List ℤ} {r : Result Run Refusal} → Lawful shares → Settled shares before after r → History before → History after

-- What the last accepted post under a key said, or what stands where nothing was posted. A settle says nothing of a key.
abbrev pub last_posted : (key : Key) (b : Statement) → History b → Record key.kind
last_posted key b (opening areas parties resources lines) = unposted key.kind
last_posted key b (call {b = before} c history) = now_stands (said_by key c before.records) (last_posted key before history)
last_posted key b (settle {before} {after} {shares} {r} lawful settled history) = last_posted key before history

-- the law over every history of what is read: it is what the last accepted post under the key said, whole
abbrev pub HistoriesKeepRecords : Type 0
HistoriesKeepRecords = (b : Statement) (history : History b) (key : Key) → IfSome (read key b.records) (λ x. x ≡ last_posted key b history)
