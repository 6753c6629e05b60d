use Rattle.std.proofs.Common.{◌≡◌, ◌+◌, ◌≤◌, ◌++◌, length, take}
use Rattle.std.specs.Prelude.{vec_capacity}
use Rattle.tables.proofs.table.Table.add_all.Given as goal

-- the rows so far are added, and the room is as it was
abbrev pub invariant-loop-row : goal.invariant-loop-row
invariant-loop-row g l =
    (l.self-inside.rows.items ≡ l.initial.self-inside.rows.items ++ take l.row-index l.rows)
    × (vec_capacity l.self-inside.rows ≡ vec_capacity l.initial.self-inside.rows)
    × (length l.initial.self-inside.rows.items + length l.rows ≤ l.self-inside.most)
    × (l.self-inside.most ≡ l.initial.self-inside.most)
    × (l.self-inside.most ≤ vec_capacity l.self-inside.rows)
