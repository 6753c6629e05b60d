-- The ranges of the records' figures, and the lengths of their spans. Assumes nothing.
use Rattle.std.specs.Prelude.{ℕ}

-- in price steps, either way
abbrev pub most_price : ℕ
most_price = 500000000

-- in units, either way, and of power in kW
abbrev pub most_energy : ℕ
most_energy = 10000000

-- what twelve tags schedule at most, in units, either way
abbrev pub most_deemed : ℕ
most_deemed = 120000000

-- in cents, either way
abbrev pub most_given : ℕ
most_given = 1000000000

-- in an hour
abbrev pub quarters : ℕ
quarters = 4
