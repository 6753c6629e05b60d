-- How large amounts can be in an interval, in cents, either way. Assumes nothing.
use Rattle.std.specs.Prelude.{ℕ}

-- a party's amount under CC 6470: the charges of 128 resources, and money given
abbrev pub most_imbalance : ℕ
most_imbalance = 2561000000000

-- any amount: the offset of 64 parties
abbrev pub most_amount : ℕ
most_amount = 164032000000000
