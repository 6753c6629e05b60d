-- What a contract sees of the records of an hour. Assumes nothing.
use Rattle.tables.specs.View.{Table}
use Rattle.rows.specs.declared.area.Area.{Area}
use Rattle.rows.specs.declared.party.Party.{Party}
use Rattle.rows.specs.declared.resource.Resource.{Resource}

-- its tables
pub record Hour : Type 0 where
  pub areas : Table Area
  pub parties : Table Party
  pub resources : Table Resource
