-- What a reading call answers of a row that is found. Assumes nothing.
use Rattle.std.proofs.Common.{◌≡◌, refl, sym, ap, ◌∙◌, ℕ, ◌<◌, true, length, slice_index_or, Some, Ok, ℤ}
use Rattle.std.specs.Option.{option_and_then}
use Rattle.tables.specs.Ranges.{is_id, as_id}
use Rattle.tables.specs.Tables.{row_under}
use Rattle.rows.specs.declared.given.GivenCode.{GivenCode}
use Rattle.rows.specs.declared.figures.GivenAmount.{GivenAmount}
use Rattle.rows.specs.declared.party.Party.{Party}
use Rattle.rows.specs.Codes.{given_code}
use Rattle.rows.specs.Slots.{is_slot, is_interval, slot_index}
use Rattle.rows.specs.Records.{Parties, Row, id_of, Kind, OfGiven, Record, table, slots, all, get}
use Rattle.rows.proofs.Records.{got}
use Rattle.records.specs.View.{Hour}
use Rattle.records.specs.Keys.{table_of, read}
use Rattle.records.specs.Calls.{key_of, at}
use Rattle.records.specs.Readings.{answer_at, slot_read, given_read}

module _ (k : Kind) (id slot : ℤ) (h : Hour) (row : Row (table k)) (i : ℕ) (r : Record k) where
  read_there : i ≡ slot_index slot → row_under (id_of (table k)) (as_id id) (table_of (table k) h).rows ≡ Some row → i < length (all k row)
      → read (key_of k id slot) h ≡ Some (slice_index_or (all k row) i r)
  read_there same there inside = ap (option_and_then (get k (slot_index slot))) there ∙ ap (λ j. get k j row) (sym same) ∙ got (all k row) i r inside

  pub slot_answer : is_id id ≡ true → is_slot (slots k) slot ≡ true → i ≡ slot_index slot
      → row_under (id_of (table k)) (as_id id) (table_of (table k) h).rows ≡ Some row → i < length (all k row)
      → Ok (slice_index_or (all k row) i r) ≡ answer_at (at slot id) (slot_read k id slot h)
  slot_answer e n same there inside = rw (e, n, read_there same there inside) refl

pub given_told : (c : GivenCode) (id interval code : ℤ) (h : Hour) (p : Party) (i : ℕ) (r : GivenAmount) → given_code code ≡ Some c
    → is_id id ≡ true → is_interval interval ≡ true → i ≡ slot_index interval
    → row_under (id_of Parties) (as_id id) h.parties.rows ≡ Some p → get (OfGiven c) i p ≡ Some r
    → Ok r ≡ given_read id interval code h
given_told c id interval code h p i r is e n same there stands =
    let reads : read (key_of (OfGiven c) id interval) h ≡ Some r =
    ap (option_and_then (get (OfGiven c) (slot_index interval))) there ∙ ap (λ j. get (OfGiven c) j p) (sym same) ∙ stands in
    rw (is, e, n, reads) refl
