use Rattle.std.proofs.Common.{◌≡◌, ◌+◌, ◌*◌, ◌≤◌, ◌++◌, map, filter, length}
use Rattle.records.specs.Hours.{party_id}
use Rattle.statement.specs.Lines.{is_billed, parties_changes}
use Rattle.statement.proofs.changes.add_interval.Given as goal

abbrev pub invariant-loop-place : goal.invariant-loop-place
invariant-loop-place l = record {
  lines : l.lines.items ≡ l.initial.lines.items ++ filter is_billed (parties_changes l.run l.interval.index l.amounts l.totals (map party_id l.parties) l.place);
  few : length l.lines.items ≤ length l.initial.lines.items + 5 * l.place;
}
