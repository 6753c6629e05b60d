-- Where a record stands in the tables, and what is read and put there. Assumes nothing.
use Rattle.std.specs.Prelude.{ℕ, ◌==◌, ◌&&◌, if◌then◌else◌, Option, None}
use Rattle.std.specs.Option.{option_and_then}
use Rattle.tables.specs.View as view
use Rattle.tables.specs.Tables.{row_under, with_changed}
use Rattle.rows.specs.Records.{Table, Areas, Parties, Resources, Row, id_of, Kind, Record, table, get, set, as_kind}
use Rattle.records.specs.View.{Hour}

abbrev pub table_of : (t : Table) → Hour → view.Table (Row t)
table_of Areas h = h.areas
table_of Parties h = h.parties
table_of Resources h = h.resources

abbrev pub with_table_of : (t : Table) → view.Table (Row t) → Hour → Hour
with_table_of Areas rows h = record h { areas = rows }
with_table_of Parties rows h = record h { parties = rows }
with_table_of Resources rows h = record h { resources = rows }

-- the kind of a record, the id that it stands under, and its interval or quarter by its index from 0; the index of an election is 0
pub record Key : Type 0 where
  pub kind : Kind
  pub id : ℕ
  pub index : ℕ

abbrev pub key : Kind → ℕ → ℕ → Key
key k id index = record { kind = k; id = id; index = index }

-- a record for a key
pub record Post : Type 0 where
  pub key : Key
  pub what : Record key.kind

-- what stands under a key, where a row is entered that has the slot
abbrev pub read : (key : Key) → Hour → Option (Record key.kind)
read key h = option_and_then (get key.kind key.index) (row_under (id_of (table key.kind)) key.id (table_of (table key.kind) h).rows)

-- the records with that of a post under its key
abbrev pub put : Post → Hour → Hour
put p h =
    with_table_of (table p.key.kind)
    (with_changed (id_of (table p.key.kind)) p.key.id (set p.key.kind p.key.index p.what) (table_of (table p.key.kind) h)) h

-- what a post says of a key: its record, where the key is its own
abbrev pub said_of : (key : Key) → Post → Option (Record key.kind)
said_of key p = if p.key.id == key.id && p.key.index == key.index then as_kind p.key.kind key.kind p.what else None
