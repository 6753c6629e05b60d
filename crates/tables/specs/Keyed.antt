-- A table whose rows are known by ids of their own. Assumes nothing.
use Rattle.std.specs.Prelude.{◌≡◌, ◌≢◌, ℕ, ◌≤◌, true, pos, length}
use Rattle.std.specs.List.{All, AllPairs}
use Rattle.tables.specs.Ranges.{is_id}
use Rattle.tables.specs.View.{Table}

pub record Keyed {T : Type 0} (key : T → ℕ) (full : ℕ) (t : Table T) : Type 0 where
  -- no more rows than there is room for, and room for no more than the full number
  pub within_room : length t.rows ≤ t.most
  pub bound : t.most ≤ full
  -- each row has an id
  pub ids : All (λ x. is_id (pos (key x)) ≡ true) t.rows
  -- no two rows have the same
  pub distinct : AllPairs (λ x y. key x ≢ key y) t.rows
