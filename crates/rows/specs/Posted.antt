-- What stands for a row in an interval or a quarter, by its index from 0. Assumes nothing.
use Rattle.std.specs.Prelude.{ℕ, if◌then◌else◌, List, map, slice_index_or}
use Rattle.std.specs.List.{zip}
use Rattle.rows.specs.declared.figures.UnsignedEnergy.{UnsignedEnergy}
use Rattle.rows.specs.declared.figures.DeemedEnergy.{DeemedEnergy}
use Rattle.rows.specs.declared.figures.GivenAmount.{GivenAmount}
use Rattle.rows.specs.declared.given.GivenCode.{GivenCode}
use Rattle.rows.specs.declared.given.GivenCode.TheVariants.{PassThrough, Cc6474, Cc6475}
use Rattle.rows.specs.declared.area.SufficiencyTest.{SufficiencyTest}
use Rattle.rows.specs.declared.area.Transfer.{Transfer}
use Rattle.rows.specs.declared.area.Area.{Area}
use Rattle.rows.specs.declared.party.GivenAmounts.{GivenAmounts}
use Rattle.rows.specs.declared.party.Party.{Party}
use Rattle.rows.specs.declared.resource.EnergyRecord.{EnergyRecord}
use Rattle.rows.specs.declared.resource.Resource.{Resource}
use Rattle.rows.specs.Kinds.{is_tie}
use Rattle.rows.specs.Figures.{as_unsigned, as_deemed, as_given, no_units, no_cents}
use Rattle.rows.specs.Rows.{no_test, no_transfer, no_energy}

abbrev pub test_at : ℕ → Area → SufficiencyTest
test_at index a = slice_index_or a.tests index no_test

abbrev pub transfer_at : ℕ → Area → Transfer
transfer_at index a = slice_index_or a.transfers index no_transfer

abbrev pub demand_at : ℕ → Party → UnsignedEnergy
demand_at index p = slice_index_or p.demand index (as_unsigned no_units)

-- what is given under a code, in each interval, and other amounts there
abbrev pub amounts_under : GivenCode → GivenAmounts → List GivenAmount
amounts_under PassThrough g = g.pass_through
amounts_under Cc6474 g = g.cc_6474
amounts_under Cc6475 g = g.cc_6475

abbrev pub with_amounts : GivenCode → List GivenAmount → GivenAmounts → GivenAmounts
with_amounts PassThrough amounts g = record g { pass_through = amounts }
with_amounts Cc6474 amounts g = record g { cc_6474 = amounts }
with_amounts Cc6475 amounts g = record g { cc_6475 = amounts }

abbrev pub given_at : GivenCode → ℕ → Party → GivenAmount
given_at code index p = slice_index_or (amounts_under code p.given) index (as_given no_cents)

abbrev pub energy_at : ℕ → Resource → EnergyRecord
energy_at index r = slice_index_or r.energy index no_energy

abbrev pub deemed_at : ℕ → Resource → DeemedEnergy
deemed_at index r = slice_index_or r.deemed index (as_deemed no_units)

-- a tie with other deemed energies; for a plain resource nothing is deemed, and it is as it was
abbrev pub with_energies : List DeemedEnergy → Resource → Resource
with_energies energies r = record r { deemed = if is_tie r.kind then energies else r.deemed }

-- resources with the energies of a table, in the same order
abbrev pub with_table : List (List DeemedEnergy) → List Resource → List Resource
with_table table resources = map (λ x. with_energies x.1 x.0) (zip resources table)
