use Rattle.std.proofs.Common.{◌≡◌, ◌+◌, ◌≤◌, ◌++◌, filter, length, take}
use Rattle.statement.specs.Lines.{is_billed, party_changes}
use Rattle.statement.proofs.changes.add_party.Given as goal

abbrev pub invariant-loop-code : goal.invariant-loop-code
invariant-loop-code l = record {
  lines : l.lines.items ≡ l.initial.lines.items ++ filter is_billed (take l.code-index (party_changes l.run l.interval.index l.amounts l.totals l.party.place l.party.id));
  few : length l.lines.items ≤ length l.initial.lines.items + l.code-index;
}
