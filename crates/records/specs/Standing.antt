-- What an accepted call leaves to be read. Assumes nothing.
use Rattle.std.specs.Prelude.{◌≡◌, Some, Ok}
use Rattle.std.specs.Option.{option_map}
use Rattle.tables.specs.Ranges.{as_id, flag}
use Rattle.rows.specs.Rows.{new_area, new_party, new_resource}
use Rattle.rows.specs.Figures.{as_unsigned, as_given}
use Rattle.rows.specs.Posts.{energy_record, tag_record, election_record, test_record, transfer_record}
use Rattle.records.specs.declared.call.Call.{Call}
use Rattle.records.specs.declared.call.Call.TheVariants.{EnterArea, EnterParty, EnterResource, PostEnergy, PostTag, PostElection, PostTest, PostTransfer, PostDemand, PostGiven}
use Rattle.records.specs.View.{Hour}
use Rattle.records.specs.Hours.{area_of, party_of, resource_of}
use Rattle.rows.specs.Records.{OfEnergy, OfTag, OfTest, OfTransfer, OfDemand}
use Rattle.records.specs.Readings.{slot_read, election_read, given_read}

-- a new row is found under its id, and a record that was posted is read under its key, as a whole
unfoldable pub Stands : Call → Hour → Type 0
Stands (EnterArea id kind) h = area_of h (as_id id) ≡ option_map (new_area (as_id id)) kind
Stands (EnterParty id area) h = party_of h (as_id id) ≡ Some (new_party (as_id id) (as_id area))
Stands (EnterResource id owner kind net exempt) h =
    resource_of h (as_id id) ≡ option_map (λ k. new_resource (as_id id) (as_id owner) k (flag net) (flag exempt)) kind
Stands (PostEnergy id interval post) h = slot_read OfEnergy id interval h ≡ Ok (energy_record post)
Stands (PostTag id interval post) h = slot_read OfTag id interval h ≡ Ok (tag_record post)
Stands (PostElection id post) h = election_read id h ≡ Ok (election_record post)
Stands (PostTest id quarter post) h = slot_read OfTest id quarter h ≡ Ok (test_record post)
Stands (PostTransfer id interval post) h = slot_read OfTransfer id interval h ≡ Ok (transfer_record post)
Stands (PostDemand id interval units) h = slot_read OfDemand id interval h ≡ Ok (as_unsigned units)
Stands (PostGiven id interval code cents) h = given_read id interval code h ≡ Ok (as_given cents)
