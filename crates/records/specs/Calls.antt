-- The calls: why each is refused, what it makes of the records, and what its refusal shows. Assumes nothing.
use Rattle.std.specs.Prelude.{◌&&◌, List, [], ◌∷◌, Some, None, is_some, Option, Result, ℤ, pos}
use Rattle.std.specs.Option.{option_map, option_map_or}
use Rattle.tables.specs.declared.refusal.Reason.{Reason}
use Rattle.tables.specs.declared.refusal.Reason.TheVariants.{OutsideSpan, OutsideValues, NotEntered, AlreadyEntered, Incompatible, Full}
use Rattle.tables.specs.declared.refusal.Place.{Place}
use Rattle.tables.specs.declared.refusal.Part.TheVariants.{Charges}
use Rattle.tables.specs.declared.refusal.Refusal.{Refusal}
use Rattle.tables.specs.Refusals.{Fit, ◌when◌, ◌unless◌, first_fit, answer_by, state_after}
use Rattle.tables.specs.Ranges.{is_id, as_id, is_flag, flag}
use Rattle.tables.specs.Tables.{has_room, with_row}
use Rattle.records.specs.declared.call.Call.{Call}
use Rattle.records.specs.declared.call.Call.TheVariants.{EnterArea, EnterParty, EnterResource, PostEnergy, PostTag, PostElection, PostTest, PostTransfer, PostDemand, PostGiven}
use Rattle.records.specs.View.{Hour}
use Rattle.rows.specs.Kinds.{names_ciso}
use Rattle.rows.specs.Rows.{new_area, new_party, new_resource}
use Rattle.rows.specs.Slots.{is_interval, is_quarter, slot_index}
use Rattle.rows.specs.Figures.{is_unsigned, is_given, as_unsigned, as_given}
use Rattle.rows.specs.Codes.{given_code}
use Rattle.rows.specs.Posts.{energy_in_range, tag_in_range, election_in_range, test_in_range, transfer_in_range, energy_record, tag_record, election_record, test_record, transfer_record}
use Rattle.rows.specs.Records.{Kind, OfEnergy, OfTag, OfElection, OfTest, OfTransfer, OfDemand, OfGiven}
use Rattle.records.specs.Keys.{Key, key, Post, put}
use Rattle.records.specs.Hours.{area_of, party_of, resource_of, area_is_weim, party_is_of_ciso, resource_is_tie, nopay_allowed_at, any_ciso, any_party_in}

-- the reasons for which a call is refused, in the order of their numbers
abbrev pub reasons : Call → Hour → List (Fit Reason)
reasons (EnterArea id kind) h =
    OutsideSpan unless is_id id
    ∷ OutsideValues unless is_some kind
    ∷ AlreadyEntered when is_some (area_of h (as_id id))
    ∷ Incompatible when (names_ciso kind && any_ciso h.areas.rows)
    ∷ Full unless has_room h.areas
    ∷ []
reasons (EnterParty id area) h =
    OutsideSpan unless is_id id
    ∷ OutsideSpan unless is_id area
    ∷ NotEntered unless is_some (area_of h (as_id area))
    ∷ AlreadyEntered when is_some (party_of h (as_id id))
    ∷ Incompatible when (area_is_weim h (as_id area) && any_party_in (as_id area) h.parties.rows)
    ∷ Full unless has_room h.parties
    ∷ []
reasons (EnterResource id owner kind net exempt) h =
    OutsideSpan unless is_id id
    ∷ OutsideSpan unless is_id owner
    ∷ OutsideValues unless is_some kind
    ∷ OutsideValues unless is_flag net
    ∷ OutsideValues unless is_flag exempt
    ∷ NotEntered unless is_some (party_of h (as_id owner))
    ∷ AlreadyEntered when is_some (resource_of h (as_id id))
    ∷ Incompatible unless party_is_of_ciso h (as_id owner)
    ∷ Full unless has_room h.resources
    ∷ []
reasons (PostEnergy id interval post) h =
    OutsideSpan unless is_id id
    ∷ OutsideSpan unless is_interval interval
    ∷ OutsideValues unless energy_in_range post
    ∷ NotEntered unless is_some (resource_of h (as_id id))
    ∷ []
reasons (PostTag id interval post) h =
    OutsideSpan unless is_id id
    ∷ OutsideSpan unless is_interval interval
    ∷ OutsideValues unless tag_in_range post
    ∷ NotEntered unless is_some (resource_of h (as_id id))
    ∷ Incompatible unless resource_is_tie h (as_id id)
    ∷ []
reasons (PostElection id post) h =
    OutsideSpan unless is_id id
    ∷ OutsideValues unless election_in_range post
    ∷ OutsideValues unless nopay_allowed_at h (as_id id) (election_record post).nopay
    ∷ NotEntered unless is_some (area_of h (as_id id))
    ∷ []
reasons (PostTest id quarter post) h =
    OutsideSpan unless is_id id
    ∷ OutsideSpan unless is_quarter quarter
    ∷ OutsideValues unless test_in_range post
    ∷ OutsideValues unless nopay_allowed_at h (as_id id) (test_record post).nopay
    ∷ NotEntered unless is_some (area_of h (as_id id))
    ∷ []
reasons (PostTransfer id interval post) h =
    OutsideSpan unless is_id id
    ∷ OutsideSpan unless is_interval interval
    ∷ OutsideValues unless transfer_in_range post
    ∷ NotEntered unless is_some (area_of h (as_id id))
    ∷ []
reasons (PostDemand id interval units) h =
    OutsideSpan unless is_id id
    ∷ OutsideSpan unless is_interval interval
    ∷ OutsideValues unless is_unsigned units
    ∷ NotEntered unless is_some (party_of h (as_id id))
    ∷ Incompatible unless party_is_of_ciso h (as_id id)
    ∷ []
reasons (PostGiven id interval code cents) h =
    OutsideSpan unless is_id id
    ∷ OutsideSpan unless is_interval interval
    ∷ OutsideValues unless is_some (given_code code)
    ∷ OutsideValues unless is_given cents
    ∷ NotEntered unless is_some (party_of h (as_id id))
    ∷ Incompatible unless party_is_of_ciso h (as_id id)
    ∷ []

-- the key of a record, by the numbers that a call gives
abbrev pub key_of : Kind → ℤ → ℤ → Key
key_of kind id slot = key kind (as_id id) (slot_index slot)

-- what a call posts, and where
abbrev pub post_of : Call → Option Post
post_of (PostEnergy id interval post) = Some (record { key = key_of OfEnergy id interval; what = energy_record post })
post_of (PostTag id interval post) = Some (record { key = key_of OfTag id interval; what = tag_record post })
post_of (PostElection id post) = Some (record { key = key OfElection (as_id id) 0; what = election_record post })
post_of (PostTest id quarter post) = Some (record { key = key_of OfTest id quarter; what = test_record post })
post_of (PostTransfer id interval post) = Some (record { key = key_of OfTransfer id interval; what = transfer_record post })
post_of (PostDemand id interval units) = Some (record { key = key_of OfDemand id interval; what = as_unsigned units })
post_of (PostGiven id interval code cents) =
    option_map (λ c. record { key = key_of (OfGiven c) id interval; what = as_given cents }) (given_code code)
post_of call = None

-- what an accepted call makes of the records; one that names no kind or code is never accepted
abbrev pub made_by : Call → Hour → Hour
made_by (EnterArea id None) h = h
made_by (EnterArea id (Some kind)) h =
    record h { areas = with_row h.areas (new_area (as_id id) kind) }
made_by (EnterParty id area) h =
    record h { parties = with_row h.parties (new_party (as_id id) (as_id area)) }
made_by (EnterResource id owner None net exempt) h = h
made_by (EnterResource id owner (Some kind) net exempt) h =
    record h { resources = with_row h.resources (new_resource (as_id id) (as_id owner) kind (flag net) (flag exempt)) }
made_by call h = option_map_or (λ p. put p h) (post_of call) h

-- the place of an interval or a quarter, and an id
abbrev pub at : ℤ → ℤ → Place
at interval id = record { interval = interval; id = id }

-- what a call is about, as it gave it
abbrev pub place_of : Call → Place
place_of (EnterArea id kind) = at (pos 0) id
place_of (EnterParty id area) = at (pos 0) id
place_of (EnterResource id owner kind net exempt) = at (pos 0) id
place_of (PostEnergy id interval post) = at interval id
place_of (PostTag id interval post) = at interval id
place_of (PostElection id post) = at (pos 0) id
place_of (PostTest id quarter post) = at quarter id
place_of (PostTransfer id interval post) = at interval id
place_of (PostDemand id interval units) = at interval id
place_of (PostGiven id interval code cents) = at interval id

-- a refusal of this part
abbrev pub refusal : Reason → Place → Refusal
refusal reason place = record { reason = reason; part = Charges; place = place }

-- the answer to a call: the same, as a refusal with its part and its place
abbrev pub answer_to : Call → Hour → Result (Unit {0}) Refusal
answer_to call h =
    answer_by (option_map (λ r. refusal r (place_of call)) (first_fit (reasons call h)))

-- what a call leaves of the records: what it makes of them where no reason fits, and else just them
abbrev pub hour_after : Call → Hour → Hour
hour_after call h = state_after (first_fit (reasons call h)) (made_by call h) h
