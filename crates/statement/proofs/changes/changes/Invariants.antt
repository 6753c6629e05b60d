use Rattle.std.proofs.Common.{◌≡◌, ◌*◌, ◌≤◌, map, filter, length}
use Rattle.records.specs.Hours.{party_id}
use Rattle.statement.specs.Lines.{is_billed, changes}
use Rattle.statement.specs.Small.{at}
use Rattle.statement.proofs.changes.changes.Given as goal

abbrev pub invariant-loop-index : goal.invariant-loop-index
invariant-loop-index l = record {
  lines : l.lines.items ≡ filter is_billed (changes l.run (at l.amounts) (at l.totals) (map party_id l.parties) l.index);
  few : length l.lines.items ≤ 321 * l.index;
}
