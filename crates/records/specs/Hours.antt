-- The tables of an hour, and what is looked up in them. Assumes nothing.
use Rattle.std.specs.Prelude.{ℕ, ◌==◌, min, Bool, true, false, not, ◌||◌, pos, List, Option}
use Rattle.std.specs.List.{list_any}
use Rattle.std.specs.Option.{option_map_or}
use Rattle.std.specs.Ordering.{int_eq}
use Rattle.tables.specs.Tables as tables
use Rattle.rows.specs.declared.figures.Power.{Power}
use Rattle.rows.specs.declared.figures.DeemedEnergy.{DeemedEnergy}
use Rattle.rows.specs.declared.kinds.AreaKind.{AreaKind}
use Rattle.rows.specs.declared.area.Area.{Area}
use Rattle.rows.specs.declared.party.Party.{Party}
use Rattle.rows.specs.declared.resource.Resource.{Resource}
use Rattle.records.specs.View.{Hour}
use Rattle.rows.specs.Kinds.{is_ciso, is_tie}
use Rattle.rows.specs.Posted.{with_table}
use Rattle.records.specs.Ranges.{most_areas, most_parties, most_resources}

-- the rows' ids
abbrev pub area_id : Area → ℕ
area_id a = a.id

abbrev pub party_id : Party → ℕ
party_id p = p.id

abbrev pub resource_id : Resource → ℕ
resource_id r = r.id

-- tables with so many rows, and no more than the full numbers
abbrev pub opened : ℕ → ℕ → ℕ → Hour
opened areas parties resources = record {
  areas = tables.new_table (min areas most_areas);
  parties = tables.new_table (min parties most_parties);
  resources = tables.new_table (min resources most_resources);
}

-- with the deemed energies of a table, one row for each resource, in the order entered
abbrev pub with_deemed : List (List DeemedEnergy) → Hour → Hour
with_deemed table h = record h { resources = record h.resources { rows = with_table table h.resources.rows } }

-- the area, the party and the resource with an id, where one is entered
abbrev pub area_of : Hour → ℕ → Option Area
area_of h id = tables.row_under area_id id h.areas.rows

abbrev pub party_of : Hour → ℕ → Option Party
party_of h id = tables.row_under party_id id h.parties.rows

abbrev pub resource_of : Hour → ℕ → Option Resource
resource_of h id = tables.row_under resource_id id h.resources.rows

-- whether the area with an id is entered, and is the CISO area
abbrev pub ciso_among : List Area → ℕ → Bool
ciso_among areas id = option_map_or (λ a. is_ciso a.kind) (tables.row_under area_id id areas) false

abbrev pub area_is_ciso : Hour → ℕ → Bool
area_is_ciso h id = ciso_among h.areas.rows id

-- whether it is entered, and is a WEIM area
abbrev pub area_is_weim : Hour → ℕ → Bool
area_is_weim h id = option_map_or (λ a. not (is_ciso a.kind)) (area_of h id) false

-- whether the party with an id is entered, and is of the CISO area
abbrev pub party_is_of_ciso : Hour → ℕ → Bool
party_is_of_ciso h id = option_map_or (λ p. area_is_ciso h p.area) (party_of h id) false

-- whether the resource with an id is entered, and is a tie
abbrev pub resource_is_tie : Hour → ℕ → Bool
resource_is_tie h id = option_map_or (λ r. is_tie r.kind) (resource_of h id) false

-- a WEIM area has no nopay but 0
unfoldable pub nopay_allowed : Power → AreaKind → Bool
nopay_allowed nopay kind = int_eq nopay.kilowatts.0 (pos 0) || is_ciso kind

-- whether it is allowed where the area with an id is entered
abbrev pub nopay_allowed_at : Hour → ℕ → Power → Bool
nopay_allowed_at h id nopay = option_map_or (λ a. nopay_allowed nopay a.kind) (area_of h id) true

-- whether some area is the CISO area
abbrev pub any_ciso : List Area → Bool
any_ciso areas = list_any (λ a. is_ciso a.kind) areas

-- whether some party is in an area
abbrev pub any_party_in : ℕ → List Party → Bool
any_party_in area parties = list_any (λ p. p.area == area) parties
