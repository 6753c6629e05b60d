-- How large are the parts of what the formulas work out, either way. Private functions alone cite these. Assumes nothing.
use Rattle.std.specs.Prelude.{ℕ}

-- an operational adjustment, in units: a deemed energy and a figure of a record
abbrev pub most_adjustment : ℕ
most_adjustment = 130000000

-- what is transferred, a difference of two differences of figures, and what is credited, a figure less two others
abbrev pub most_transfer : ℕ
most_transfer = 20000000

abbrev pub most_credit : ℕ
most_credit = 20000000

-- energy that has one price: an operational adjustment and three figures of a record, or a transfer and a credit
abbrev pub most_priced : ℕ
most_priced = 160000000

-- its products
abbrev pub most_product : ℕ
most_product = 80000000000000000
