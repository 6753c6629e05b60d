-- The amounts of parties and the pools, in an interval by its index from 0. Deemed energies are those that stand with the resources.
-- Assumes nothing.
use Rattle.std.specs.Prelude.{ℕ, ◌-◌, ◌==◌, List, ◌++◌, map, filter, length, replicate, ℤ, pos, neg_ℤ, ◌+ℤ◌}
use Rattle.sharing.specs.Laws.{total}
use Rattle.rows.specs.declared.figures.Cents.{Cents}
use Rattle.rows.specs.declared.area.Area.{Area}
use Rattle.rows.specs.declared.party.Party.{Party}
use Rattle.rows.specs.declared.resource.Resource.{Resource}
use Rattle.rows.specs.declared.given.GivenCode.{GivenCode}
use Rattle.rows.specs.declared.given.GivenCode.TheVariants.{PassThrough, Cc6474, Cc6475}
use Rattle.rows.specs.Posted.{deemed_at, given_at}
use Rattle.formulas.specs.Imbalance.{imbalance_charge}
use Rattle.formulas.specs.Surcharge.{area_pool}
use Rattle.records.specs.Ranges.{most_parties}
use Rattle.charges.specs.declared.amounts.IntervalAmounts.{IntervalAmounts}

-- what a resource is charged under CC 6470
abbrev pub resource_charge : ℕ → Resource → ℤ
resource_charge index r = imbalance_charge index (deemed_at index r).units.0 r

-- the resources of a party, by its id
abbrev pub owned_by : ℕ → List Resource → List Resource
owned_by owner resources = filter (λ r. r.owner == owner) resources

abbrev pub given_cents : GivenCode → ℕ → Party → ℤ
given_cents code index p = (given_at code index p).cents.0

-- a party's amount under CC 6470: its resources', and what is passed through to it
unfoldable pub amount_6470 : List Resource → ℕ → Party → ℤ
amount_6470 resources index p = total (map (resource_charge index) (owned_by p.id resources)) +ℤ given_cents PassThrough index p

-- those under CC 6474 and CC 6475 are given
abbrev pub amount_6474 : ℕ → Party → ℤ
amount_6474 index p = given_cents Cc6474 index p

abbrev pub amount_6475 : ℕ → Party → ℤ
amount_6475 index p = given_cents Cc6475 index p

-- what is charged under the three
abbrev pub offset_by : List Resource → ℕ → Party → ℤ
offset_by resources index p = amount_6470 resources index p +ℤ amount_6474 index p +ℤ amount_6475 index p

-- the pool of CC 6477 gives it back
unfoldable pub offset_pool : List Resource → List Party → ℕ → ℤ
offset_pool resources parties index = neg_ℤ (total (map (offset_by resources index) parties))

-- account 0 has the other side of all pools of CC 6476
unfoldable pub balance : List Area → ℕ → ℤ
balance areas index = neg_ℤ (total (map (area_pool index) areas))

abbrev pub no_cents : Cents
no_cents = record { 0 = pos 0 }

-- the empty places of a column
abbrev pub rest : List Party → List Cents
rest parties = replicate (most_parties - length parties) no_cents

-- a column with an amount for each party, in the order entered
abbrev pub column : (Party → ℤ) → List Party → List Cents
column amount parties = map (λ p. record { 0 = amount p }) parties ++ rest parties

-- a column as numbers
abbrev pub cents : List Cents → List ℤ
cents column = map (λ c. c.0) column

abbrev pub no_column : List Cents
no_column = replicate most_parties no_cents

abbrev pub no_amounts : IntervalAmounts
no_amounts = record {
  cc_6470 = no_column;
  cc_6474 = no_column;
  cc_6475 = no_column;
  cc_6476 = no_column;
  cc_6477 = no_column;
  offset = no_cents;
  balance = no_cents;
}
