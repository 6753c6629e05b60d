-- How large what the formulas work out can be, either way. Assumes nothing.
use Rattle.std.specs.Prelude.{ℕ}

-- the products of a resource in an interval
abbrev pub most_products : ℕ
most_products = 240000000000000000

-- what a resource or an area is charged for an interval, in cents
abbrev pub most_charge : ℕ
most_charge = 20000000000
