-- The claims of an area's parties on a pool. Assumes nothing.
use Rattle.std.specs.Prelude.{ℕ, List, map, pos}
use Rattle.rows.specs.declared.kinds.AreaKind.{AreaKind}
use Rattle.rows.specs.declared.area.Area.{Area}
use Rattle.rows.specs.declared.party.Party.{Party}
use Rattle.charges.specs.declared.claims.Claim.{Claim}
use Rattle.charges.specs.Columns.{parties_in, weight}

-- a party's claim in an interval, by its index from 0, before it has a share
abbrev pub claim : AreaKind → ℕ → Party → Claim
claim kind index p = record { weight = weight kind index p; share = record { 0 = pos 0 } }

-- those of an area's parties, in the order entered
abbrev pub claims_in : ℕ → Area → List Party → List Claim
claims_in index area parties = map (claim area.kind index) (parties_in area.id parties)
