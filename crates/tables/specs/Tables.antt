-- Rows by their ids, and what is done with a table. Assumes nothing.
use Rattle.std.specs.Prelude.{◌≡◌, ℕ, ◌+◌, ◌==◌, nat_lt, nat_le, Bool, true, false, List, [], ◌∷◌, ◌++◌, length, take, drop}
use Rattle.std.specs.Prelude.{Option, None, is_some, find, position, slice_set, Result, Ok, Err}
use Rattle.std.specs.Option.{option_map_or}
use Rattle.tables.specs.View.{Table}
use Rattle.tables.specs.declared.refusal.Reason.{Reason}
use Rattle.tables.specs.declared.refusal.Reason.TheVariants.{Full, NotEntered}

module _ {T : Type 0} where
  -- the first row with an id
  abbrev pub row_under : (T → ℕ) → ℕ → List T → Option T
  row_under key id rows = find (λ x. key x == id) rows

  -- its position, from 0
  abbrev pub position_of : (T → ℕ) → ℕ → List T → Option ℕ
  position_of key id rows = position (λ x. key x == id) rows

  -- whether some row has the id
  abbrev pub is_entered : (T → ℕ) → ℕ → List T → Bool
  is_entered key id rows = is_some (row_under key id rows)

  -- a row is not entered: none is found, and the reason says so
  abbrev pub IsMissing : Option T → Reason → Type 0
  IsMissing row r = (row ≡ None) × (r ≡ NotEntered)

  -- a table with room for so many rows, and none yet
  abbrev pub new_table : ℕ → Table T
  new_table most = record { rows = []; most = most }

  abbrev pub has_room : Table T → Bool
  has_room t = nat_lt (length t.rows) t.most

  -- one row more
  abbrev pub with_row : Table T → T → Table T
  with_row t x = record t { rows = t.rows ++ x ∷ [] }

  -- whether there is room for more rows
  abbrev pub has_room_for : List T → Table T → Bool
  has_room_for rows t = nat_le (length t.rows + length rows) t.most

  -- more rows
  abbrev pub with_rows : Table T → List T → Table T
  with_rows t rows = record t { rows = t.rows ++ rows }

  -- other rows from the first on, as many as there were
  unfoldable pub with_first_rows : Table T → List T → Table T
  with_first_rows t rows = record t { rows = take (length t.rows) (rows ++ drop (length rows) t.rows) }

  -- another row in the place of the first with an id
  unfoldable pub with_replaced : (T → ℕ) → ℕ → Table T → T → Table T
  with_replaced key id t x =
      record t { rows = option_map_or (λ i. slice_set t.rows i x) (position_of key id t.rows) t.rows }

  -- the first row with an id is changed, and no other
  unfoldable pub with_changed : (T → ℕ) → ℕ → (T → T) → Table T → Table T
  with_changed key id change t = option_map_or (λ x. with_replaced key id t (change x)) (row_under key id t.rows) t

  -- a row is added where there is room, and else the table is as it was
  abbrev pub TriedToAdd : T → Table T → Table T → Result (Unit {0}) Reason → Type 0
  TriedToAdd x before after (Ok _) = (has_room before ≡ true) × (after ≡ with_row before x)
  TriedToAdd x before after (Err r) = (has_room before ≡ false) × (r ≡ Full) × (after ≡ before)

  -- rows are added where there is room for all of them, and else the table is as it was
  abbrev pub TriedToAddAll : List T → Table T → Table T → Result (Unit {0}) Reason → Type 0
  TriedToAddAll rows before after (Ok _) = (has_room_for rows before ≡ true) × (after ≡ with_rows before rows)
  TriedToAddAll rows before after (Err r) = (has_room_for rows before ≡ false) × (r ≡ Full) × (after ≡ before)
