use Rattle.std.proofs.Common.{◌≡◌, ◌+◌, ◌++◌, length, take, drop}
use Rattle.std.specs.List.{All}
use Rattle.deemed.specs.Ranges.{hour_length}
use Rattle.rows.specs.Posted.{with_table}
use Rattle.records.proofs.records.put_deemed.Given as goal

-- what is put in all is what is put already, and then what the rows that are left put at the rest of the resources
abbrev pub invariant-loop-i : goal.invariant-loop-i
invariant-loop-i l =
    let i = l.i-iterator.iter.count in
    let rows = l.i-iterator.iter.iter.rest.now in
    record {
      put_so_far : with_table l.table l.initial.resources ≡ take i l.resources ++ with_table rows (drop i l.resources);
      whole : All (λ r. length r.deemed ≡ hour_length) (take i l.resources);
      resources_left : i + l.i-iterator.n ≡ length l.resources;
      rows_left : i + length rows ≡ length l.table;
    }
