-- What is true of the records of every hour, and how accepted calls change them. Assumes nothing.
use Rattle.std.specs.Prelude.{◌≡◌, ℕ, ◌≤◌, ◌==◌, true, false, List, map, ◌++◌, None, is_some, pos}
use Rattle.std.specs.List.{All, count_by}
use Rattle.tables.specs.Keyed.{Keyed}
use Rattle.tables.specs.Refusals.{first_fit}
use Rattle.rows.specs.declared.party.Party.{Party}
use Rattle.rows.specs.declared.area.Area.{Area}
use Rattle.rows.specs.declared.resource.Resource.{Resource}
use Rattle.rows.specs.Rows.{new_party, nothing_deemed, IsWholeArea, IsWholeParty, IsWholeResource}
use Rattle.records.specs.declared.call.Call.{Call}
use Rattle.records.specs.View.{Hour}
use Rattle.rows.specs.Kinds.{is_ciso, is_tie}
use Rattle.records.specs.Ranges.{most_areas, most_parties, most_resources}
use Rattle.records.specs.Hours.{area_id, party_id, resource_id, area_of, area_is_ciso, area_is_weim, party_is_of_ciso}
use Rattle.records.specs.Calls.{reasons, made_by}

-- a party is as it was entered, where it is not of the CISO area
abbrev pub AsEntered : Hour → Party → Type 0
AsEntered h p = area_is_ciso h p.area ≡ false → p ≡ new_party p.id p.area

-- a plain resource has no deemed energy: each is 0
abbrev pub IsUndeemed : Resource → Type 0
IsUndeemed r = is_tie r.kind ≡ false → r.deemed ≡ nothing_deemed

-- a WEIM area has no nopay but 0, neither of its election nor of any test
abbrev pub IsWithoutNopay : Area → Type 0
IsWithoutNopay a = is_ciso a.kind ≡ false → (a.election.nopay.kilowatts.0 ≡ pos 0) × All (λ t. t.nopay.kilowatts.0 ≡ pos 0) a.tests

pub record Sound (h : Hour) : Type 0 where
  -- in each table every row has an id of its own, and there is room for the rows
  pub areas : Keyed area_id most_areas h.areas
  pub parties : Keyed party_id most_parties h.parties
  pub resources : Keyed resource_id most_resources h.resources
  -- at most one area is the CISO area
  pub one_ciso : count_by (λ a. is_ciso a.kind) h.areas.rows ≤ 1
  -- a WEIM area has at most one party
  pub single : (id : ℕ) → area_is_weim h id ≡ true → count_by (λ p. p.area == id) h.parties.rows ≤ 1
  -- the area of each party is entered
  pub homes : All (λ p. is_some (area_of h p.area) ≡ true) h.parties.rows
  -- the owner of each resource is entered, and is of the CISO area
  pub owners : All (λ r. party_is_of_ciso h r.owner ≡ true) h.resources.rows
  -- for a party outside the CISO area nothing is posted
  pub as_entered : All (AsEntered h) h.parties.rows
  -- for a plain resource nothing is deemed, and a WEIM area has no nopay
  pub undeemed : All IsUndeemed h.resources.rows
  pub without_nopay : All IsWithoutNopay h.areas.rows
  -- for each row a record stands in each quarter and each interval
  pub whole_areas : All IsWholeArea h.areas.rows
  pub whole_parties : All IsWholeParty h.parties.rows
  pub whole_resources : All IsWholeResource h.resources.rows

-- an accepted call leads from the records before to those after
pub record Step (before after : Hour) : Type 0 where
  pub call : Call
  pub accepted : first_fit (reasons call before) ≡ None
  pub made : after ≡ made_by call before

-- ids are only added, behind those that were there
abbrev pub Extends : {T : Type 0} → (T → ℕ) → List T → List T → Type 0
Extends key before after = (more : List ℕ) × (map key after ≡ map key before ++ more)

pub record Grows (before after : Hour) : Type 0 where
  pub areas : Extends area_id before.areas.rows after.areas.rows
  pub parties : Extends party_id before.parties.rows after.parties.rows
  pub resources : Extends resource_id before.resources.rows after.resources.rows
  -- and in each table there may be as many rows as before
  pub room : (after.areas.most ≡ before.areas.most) × (after.parties.most ≡ before.parties.most) × (after.resources.most ≡ before.resources.most)

-- whatever accepted calls follow: sound records stay so, and only grow
abbrev pub StepsKeepSound : Type 0
StepsKeepSound = (before after : Hour) → Step before after → Sound before → Sound after × Grows before after
