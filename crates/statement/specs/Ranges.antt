-- The full numbers of a book. Assumes nothing.
use Rattle.std.specs.Prelude.{ℕ}

abbrev pub most_lines : ℕ
most_lines = 4096

abbrev pub most_runs : ℕ
most_runs = 65535

-- the lines that a run adds at most: in each interval five for each party, and one for account 0
abbrev pub most_added : ℕ
most_added = 3852
