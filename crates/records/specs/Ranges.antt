-- The full numbers of the tables. Assumes nothing.
use Rattle.std.specs.Prelude.{ℕ}

abbrev pub most_areas : ℕ
most_areas = 16

abbrev pub most_parties : ℕ
most_parties = 64

abbrev pub most_resources : ℕ
most_resources = 128
