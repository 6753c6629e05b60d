-- The kinds of records that are posted, and the slots of each in a row, by their indices from 0. Assumes nothing.
use Rattle.std.specs.Prelude.{ℕ, List, [], ◌∷◌, Option, Some, None, slice_get, slice_index_or, slice_set}
use Rattle.deemed.specs.declared.tag.Tag.{Tag}
use Rattle.deemed.specs.Ranges.{hour_length}
use Rattle.deemed.specs.Tags.{no_tag}
use Rattle.rows.specs.declared.figures.UnsignedEnergy.{UnsignedEnergy}
use Rattle.rows.specs.declared.figures.GivenAmount.{GivenAmount}
use Rattle.rows.specs.declared.given.GivenCode.{GivenCode}
use Rattle.rows.specs.declared.given.GivenCode.TheVariants.{PassThrough, Cc6474, Cc6475}
use Rattle.rows.specs.declared.area.Election.{Election}
use Rattle.rows.specs.declared.area.SufficiencyTest.{SufficiencyTest}
use Rattle.rows.specs.declared.area.Transfer.{Transfer}
use Rattle.rows.specs.declared.area.Area.{Area}
use Rattle.rows.specs.declared.party.Party.{Party}
use Rattle.rows.specs.declared.resource.EnergyRecord.{EnergyRecord}
use Rattle.rows.specs.declared.resource.Resource.{Resource}
use Rattle.rows.specs.Ranges.{quarters}
use Rattle.rows.specs.Figures.{as_unsigned, as_given, no_units, no_cents}
use Rattle.rows.specs.Rows.{no_energy, no_election, no_test, no_transfer, IsWholeArea, IsWholeParty, IsWholeResource}
use Rattle.rows.specs.Posted.{amounts_under, with_amounts}

-- the tables, and a row of each
pub data Table : Type 0 where
  Areas : Table
  Parties : Table
  Resources : Table

abbrev pub Row : Table → Type 0
Row Areas = Area
Row Parties = Party
Row Resources = Resource

abbrev pub id_of : (t : Table) → Row t → ℕ
id_of Areas a = a.id
id_of Parties p = p.id
id_of Resources r = r.id

-- a record stands in each slot of the row
abbrev pub Whole : (t : Table) → Row t → Type 0
Whole Areas a = IsWholeArea a
Whole Parties p = IsWholeParty p
Whole Resources r = IsWholeResource r

-- the kinds; money is given under a code
pub data Kind : Type 0 where
  OfEnergy : Kind
  OfTag : Kind
  OfElection : Kind
  OfTest : Kind
  OfTransfer : Kind
  OfDemand : Kind
  OfGiven : GivenCode → Kind

abbrev pub Record : Kind → Type 0
Record OfEnergy = EnergyRecord
Record OfTag = Tag
Record OfElection = Election
Record OfTest = SufficiencyTest
Record OfTransfer = Transfer
Record OfDemand = UnsignedEnergy
Record (OfGiven code) = GivenAmount

-- the table in whose rows it stands
abbrev pub table : Kind → Table
table OfEnergy = Resources
table OfTag = Resources
table OfElection = Areas
table OfTest = Areas
table OfTransfer = Areas
table OfDemand = Parties
table (OfGiven code) = Parties

-- how many stand in a row: one for each interval or quarter; an area has one election
abbrev pub slots : Kind → ℕ
slots OfElection = 1
slots OfTest = quarters
slots kind = hour_length

-- what stands where nothing was posted: 0, type absent, opted out
abbrev pub unposted : (k : Kind) → Record k
unposted OfEnergy = no_energy
unposted OfTag = no_tag
unposted OfElection = no_election
unposted OfTest = no_test
unposted OfTransfer = no_transfer
unposted OfDemand = as_unsigned no_units
unposted (OfGiven code) = as_given no_cents

-- all records of a kind in a row, and a row with others
abbrev pub all : (k : Kind) → Row (table k) → List (Record k)
all OfEnergy r = r.energy
all OfTag r = r.tags
all OfElection a = a.election ∷ []
all OfTest a = a.tests
all OfTransfer a = a.transfers
all OfDemand p = p.demand
all (OfGiven code) p = amounts_under code p.given

abbrev pub with_all : (k : Kind) → List (Record k) → Row (table k) → Row (table k)
with_all OfEnergy records r = record r { energy = records }
with_all OfTag records r = record r { tags = records }
with_all OfElection records a = record a { election = slice_index_or records 0 a.election }
with_all OfTest records a = record a { tests = records }
with_all OfTransfer records a = record a { transfers = records }
with_all OfDemand records p = record p { demand = records }
with_all (OfGiven code) records p = record p { given = with_amounts code records p.given }

-- the record in a slot, where the row has the slot, and a row with another record there
abbrev pub get : (k : Kind) → ℕ → Row (table k) → Option (Record k)
get k index row = slice_get (all k row) index

abbrev pub set : (k : Kind) → ℕ → Record k → Row (table k) → Row (table k)
set k index r row = with_all k (slice_set (all k row) index r) row

-- a record as one of another kind, where the kind is the same
abbrev pub as_kind : (k j : Kind) → Record k → Option (Record j)
as_kind OfEnergy OfEnergy r = Some r
as_kind OfTag OfTag r = Some r
as_kind OfElection OfElection r = Some r
as_kind OfTest OfTest r = Some r
as_kind OfTransfer OfTransfer r = Some r
as_kind OfDemand OfDemand r = Some r
as_kind (OfGiven PassThrough) (OfGiven PassThrough) r = Some r
as_kind (OfGiven Cc6474) (OfGiven Cc6474) r = Some r
as_kind (OfGiven Cc6475) (OfGiven Cc6475) r = Some r
as_kind _ _ r = None
