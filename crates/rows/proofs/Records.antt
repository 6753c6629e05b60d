-- What a record that is set leaves of its row, and what stands in a row as it is entered. Assumes nothing.
use Rattle.std.proofs.Common.{◌≡◌, refl, ap, ℕ, zero, suc, ◌<◌, true, List, ◌∷◌, [], length, replicate, Some, is_some, subst, sym, arith, slice_set, slice_get, slice_index_or, ◌∙◌, ℤ, pos}
use Rattle.std.specs.List.{All}
use Rattle.std.proofs.lemmas.List.{length-set, get_or-replicate}
use Rattle.std.proofs.lemmas.Option.{slice_get-get_or}
use Rattle.std.proofs.lemmas.Int.{ints}
use Rattle.tables.specs.Ranges.{within}
use Rattle.rows.specs.Ranges.{quarters}
use Rattle.rows.specs.Slots.{is_slot, slot_index}
use Rattle.deemed.specs.declared.quantities.Kilowatts.{Kilowatts}
use Rattle.rows.specs.Figures.{as_power, no_kilowatts}
use Rattle.rows.proofs.FigureLaws.{no_power}
use Rattle.rows.specs.declared.area.SufficiencyTest.{SufficiencyTest}
use Rattle.rows.specs.declared.kinds.AreaKind.{AreaKind}
use Rattle.rows.specs.declared.kinds.ResourceKind.{ResourceKind}
use Rattle.rows.specs.declared.figures.DeemedEnergy.{DeemedEnergy}
use Rattle.rows.specs.declared.given.GivenCode.TheVariants.{PassThrough, Cc6474, Cc6475}
use Rattle.rows.specs.Rows.{new_area, new_party, new_resource, no_election, no_test, no_tests, no_transfers, no_demand, nothing_given, no_energies, no_tags}
use Rattle.rows.specs.Records.{Table, Areas, Parties, Resources, Row, id_of, Whole, Kind, OfEnergy, OfTag, OfElection, OfTest, OfTransfer, OfDemand, OfGiven, Record, table, slots, unposted, all, get, set, as_kind}

-- what a row is but for the records that are posted for it: what it was entered with, how many records it has, and what is deemed
pub record AreaFrame : Type 0 where
  pub id : ℕ
  pub kind : AreaKind
  pub tests : ℕ
  pub transfers : ℕ

pub record PartyFrame : Type 0 where
  pub id : ℕ
  pub area : ℕ
  pub demand : ℕ
  pub pass_through : ℕ
  pub cc_6474 : ℕ
  pub cc_6475 : ℕ

pub record ResourceFrame : Type 0 where
  pub id : ℕ
  pub owner : ℕ
  pub kind : ResourceKind
  pub energy : ℕ
  pub tags : ℕ
  pub deemed : List DeemedEnergy

abbrev pub Frame : Table → Type 0
Frame Areas = AreaFrame
Frame Parties = PartyFrame
Frame Resources = ResourceFrame

abbrev pub frame : (t : Table) → Row t → Frame t
frame Areas a = record { id = a.id; kind = a.kind; tests = length a.tests; transfers = length a.transfers }
frame Parties p = record {
  id = p.id;
  area = p.area;
  demand = length p.demand;
  pass_through = length p.given.pass_through;
  cc_6474 = length p.given.cc_6474;
  cc_6475 = length p.given.cc_6475;
}
frame Resources r = record {
  id = r.id;
  owner = r.owner;
  kind = r.kind;
  energy = length r.energy;
  tags = length r.tags;
  deemed = r.deemed;
}

-- a record that is set leaves it
pub set_frame : (k : Kind) (i : ℕ) (r : Record k) (row : Row (table k)) → frame (table k) (set k i r row) ≡ frame (table k) row
set_frame OfEnergy i r row = ap (λ n. record (frame Resources row) { energy = n }) (length-set row.energy i r)
set_frame OfTag i r row = ap (λ n. record (frame Resources row) { tags = n }) (length-set row.tags i r)
set_frame OfElection i r row = refl
set_frame OfTest i r row = ap (λ n. record (frame Areas row) { tests = n }) (length-set row.tests i r)
set_frame OfTransfer i r row = ap (λ n. record (frame Areas row) { transfers = n }) (length-set row.transfers i r)
set_frame OfDemand i r row = ap (λ n. record (frame Parties row) { demand = n }) (length-set row.demand i r)
set_frame (OfGiven PassThrough) i r row = ap (λ n. record (frame Parties row) { pass_through = n }) (length-set row.given.pass_through i r)
set_frame (OfGiven Cc6474) i r row = ap (λ n. record (frame Parties row) { cc_6474 = n }) (length-set row.given.cc_6474 i r)
set_frame (OfGiven Cc6475) i r row = ap (λ n. record (frame Parties row) { cc_6475 = n }) (length-set row.given.cc_6475 i r)

-- the records of the kind are those with the one that is set
pub set_all : (k : Kind) (i : ℕ) (r : Record k) (row : Row (table k)) → all k (set k i r row) ≡ slice_set (all k row) i r
set_all OfEnergy i r row = refl
set_all OfTag i r row = refl
set_all OfElection zero r row = refl
set_all OfElection (suc i) r row = refl
set_all OfTest i r row = refl
set_all OfTransfer i r row = refl
set_all OfDemand i r row = refl
set_all (OfGiven PassThrough) i r row = refl
set_all (OfGiven Cc6474) i r row = refl
set_all (OfGiven Cc6475) i r row = refl

-- a whole row has each slot
pub whole_all : (k : Kind) (row : Row (table k)) → Whole (table k) row → length (all k row) ≡ slots k
whole_all OfEnergy row w = w.0
whole_all OfTag row w = w.1
whole_all OfElection row w = refl
whole_all OfTest row w = w.0
whole_all OfTransfer row w = w.1
whole_all OfDemand row w = w.0
whole_all (OfGiven PassThrough) row w = w.1
whole_all (OfGiven Cc6474) row w = w.2
whole_all (OfGiven Cc6475) row w = w.3

pub there : {X : Type 0} (xs : List X) (i : ℕ) → i < length xs → is_some (slice_get xs i) ≡ true
there [] i h = absurd (omega arith)
there (x ∷ xs) zero h = refl
there (x ∷ xs) (suc i) h = there xs i (omega arith)

pub whole_there : (k : Kind) (i : ℕ) (row : Row (table k)) → Whole (table k) row → i < slots k → is_some (get k i row) ≡ true
whole_there k i row w h = there (all k row) i (subst (λ n. i < n) (sym (whole_all k row w)) h)

-- a row with nothing posted, as it was entered
abbrev pub entered : (t : Table) → Row t → Row t
entered Areas a = new_area a.id a.kind
entered Parties p = new_party p.id p.area
entered Resources r = new_resource r.id r.owner r.kind r.net r.exempt

-- what stands in it where nothing was posted
pub entered_all : (k : Kind) (row : Row (table k)) → all k (entered (table k) row) ≡ replicate (slots k) (unposted k)
unfolding no_tests no_transfers no_demand nothing_given no_energies no_tags
entered_all OfEnergy row = refl
entered_all OfTag row = refl
entered_all OfElection row = refl
entered_all OfTest row = refl
entered_all OfTransfer row = refl
entered_all OfDemand row = refl
entered_all (OfGiven PassThrough) row = refl
entered_all (OfGiven Cc6474) row = refl
entered_all (OfGiven Cc6475) row = refl

-- a record is one of its own kind
pub own_kind : (k : Kind) (r : Record k) → as_kind k k r ≡ Some r
own_kind OfEnergy r = refl
own_kind OfTag r = refl
own_kind OfElection r = refl
own_kind OfTest r = refl
own_kind OfTransfer r = refl
own_kind OfDemand r = refl
own_kind (OfGiven PassThrough) r = refl
own_kind (OfGiven Cc6474) r = refl
own_kind (OfGiven Cc6475) r = refl

-- the id stays
pub set_id : (k : Kind) (i : ℕ) (r : Record k) (row : Row (table k)) → id_of (table k) (set k i r row) ≡ id_of (table k) row
set_id OfEnergy i r row = refl
set_id OfTag i r row = refl
set_id OfElection i r row = refl
set_id OfTest i r row = refl
set_id OfTransfer i r row = refl
set_id OfDemand i r row = refl
set_id (OfGiven code) i r row = refl

-- a slot's index is inside
pub slot_inside : (count : ℕ) (z : ℤ) → is_slot count z ≡ true → slot_index z < count
slot_inside count z e =
    let w = within (pos 1) (pos count) z e in
    let from = w.0 in
    let to = w.1 in
    omega (arith, ints)

-- a record that stands in a slot is the one at the index
pub got : {X : Type 0} (xs : List X) (i : ℕ) (d : X) → i < length xs → slice_get xs i ≡ Some (slice_index_or xs i d)
got xs i d h = slice_get-get_or xs i d h

-- an area as it is entered has no nopay
zero_power : (as_power no_kilowatts).kilowatts.0 ≡ pos 0
zero_power = ap (λ (k : Kilowatts). k.0) no_power

pub no_nopay : (id : ℕ) (kind : AreaKind) → ((new_area id kind).election.nopay.kilowatts.0 ≡ pos 0) × All (λ t. t.nopay.kilowatts.0 ≡ pos 0) (new_area id kind).tests
unfolding no_election no_tests
no_nopay id kind = (zero_power, λ i d inside. ap (λ (t : SufficiencyTest). t.nopay.kilowatts.0) (get_or-replicate quarters i no_test d inside) ∙ zero_power)
