-- The rows of the tables as they are entered, before anything is posted. Assumes nothing.
use Rattle.std.specs.Prelude.{◌≡◌, ℕ, length, Bool, false, List, None, replicate}
use Rattle.deemed.specs.declared.tag.Tag.{Tag}
use Rattle.deemed.specs.Ranges.{hour_length}
use Rattle.deemed.specs.Tags.{no_tag}
use Rattle.rows.specs.declared.figures.UnsignedEnergy.{UnsignedEnergy}
use Rattle.rows.specs.declared.figures.DeemedEnergy.{DeemedEnergy}
use Rattle.rows.specs.declared.kinds.AreaKind.{AreaKind}
use Rattle.rows.specs.declared.kinds.ResourceKind.{ResourceKind}
use Rattle.rows.specs.declared.area.Election.{Election}
use Rattle.rows.specs.declared.area.SufficiencyTest.{SufficiencyTest}
use Rattle.rows.specs.declared.area.Transfer.{Transfer}
use Rattle.rows.specs.declared.area.Area.{Area}
use Rattle.rows.specs.declared.party.GivenAmounts.{GivenAmounts}
use Rattle.rows.specs.declared.party.Party.{Party}
use Rattle.rows.specs.declared.resource.EnergyRecord.{EnergyRecord}
use Rattle.rows.specs.declared.resource.Resource.{Resource}
use Rattle.rows.specs.Ranges.{quarters}
use Rattle.rows.specs.Figures.{as_price, as_cap, as_energy, as_unsigned, as_power, as_deemed, as_given}
use Rattle.rows.specs.Figures.{no_steps, no_units, no_kilowatts, no_cents}

-- an area is opted out
unfoldable pub no_election : Election
no_election = record {
  opted_in = false;
  cap = as_cap no_steps;
  up = as_power no_kilowatts;
  nopay = as_power no_kilowatts;
}

abbrev pub no_test : SufficiencyTest
no_test = record {
  capacity = as_power no_kilowatts;
  ramp = as_power no_kilowatts;
  nopay = as_power no_kilowatts;
}

-- in every quarter
unfoldable pub no_tests : List SufficiencyTest
no_tests = replicate quarters no_test

abbrev pub no_transfer : Transfer
no_transfer = record {
  to = as_unsigned no_units;
  base_to = as_unsigned no_units;
  from = as_unsigned no_units;
  base_from = as_unsigned no_units;
}

-- in every interval, as what follows
unfoldable pub no_transfers : List Transfer
no_transfers = replicate hour_length no_transfer

abbrev pub new_area : ℕ → AreaKind → Area
new_area id kind = record {
  id = id;
  kind = kind;
  election = no_election;
  tests = no_tests;
  transfers = no_transfers;
}

unfoldable pub no_demand : List UnsignedEnergy
no_demand = replicate hour_length (as_unsigned no_units)

unfoldable pub nothing_given : GivenAmounts
nothing_given = record {
  pass_through = replicate hour_length (as_given no_cents);
  cc_6474 = replicate hour_length (as_given no_cents);
  cc_6475 = replicate hour_length (as_given no_cents);
}

abbrev pub new_party : ℕ → ℕ → Party
new_party id area = record { id = id; area = area; demand = no_demand; given = nothing_given }

-- no exceptional dispatch
abbrev pub no_energy : EnergyRecord
no_energy = record {
  lmp = as_price no_steps;
  mss = as_price no_steps;
  resprice = as_price no_steps;
  edprice = as_price no_steps;
  iie = as_energy no_units;
  oa = as_energy no_units;
  mssiie = as_energy no_units;
  res = as_energy no_units;
  above = as_energy no_units;
  edqty = as_energy no_units;
  resflag = false;
  ed = None;
}

unfoldable pub no_energies : List EnergyRecord
no_energies = replicate hour_length no_energy

unfoldable pub no_tags : List Tag
no_tags = replicate hour_length no_tag

-- nothing is deemed delivered
unfoldable pub nothing_deemed : List DeemedEnergy
nothing_deemed = replicate hour_length (as_deemed no_units)

abbrev pub new_resource : ℕ → ℕ → ResourceKind → Bool → Bool → Resource
new_resource id owner kind net exempt = record {
  id = id;
  owner = owner;
  kind = kind;
  net = net;
  exempt = exempt;
  energy = no_energies;
  tags = no_tags;
  deemed = nothing_deemed;
}

-- a record stands for each quarter and each interval
abbrev pub IsWholeArea : Area → Type 0
IsWholeArea a = (length a.tests ≡ quarters) × (length a.transfers ≡ hour_length)

abbrev pub IsWholeParty : Party → Type 0
IsWholeParty p =
    (length p.demand ≡ hour_length)
    × (length p.given.pass_through ≡ hour_length)
    × (length p.given.cc_6474 ≡ hour_length)
    × (length p.given.cc_6475 ≡ hour_length)

abbrev pub IsWholeResource : Resource → Type 0
IsWholeResource r =
    (length r.energy ≡ hour_length) × (length r.tags ≡ hour_length) × (length r.deemed ≡ hour_length)
