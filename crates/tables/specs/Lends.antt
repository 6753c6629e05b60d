-- What a table ends as, where one of its rows, or all of them, are lent to be written. Assumes nothing.
use Rattle.std.specs.Prelude.{ℕ, List, Result}
use Rattle.std.specs.Borrow.{Lends, LendsIfOk, Fml, RattleType, MutBor, Array}
use Rattle.tables.specs.View.{Table}
use Rattle.tables.specs.Tables.{with_replaced, with_first_rows}
use Rattle.tables.specs.contracts.table.Table.{the_row}

module _ (T : RattleType) where
  -- the row that was written last stands instead of the row that was found; without one the table is as before
  abbrev pub lends_found : (T.Denot → ℕ) → MutBor (Table T.Denot) → ℕ
      → {E : Type 0} → Result (MutBor T.Denot) E → Fml
  lends_found key t id r = LendsIfOk (the_row T) T t r (with_replaced key id t.now) t.now

  -- the rows are those that were written last
  abbrev pub lends_rows : MutBor (Table T.Denot) → MutBor (List T.Denot) → Fml
  lends_rows t r = Lends (the_row T) (Array T 0) t r (with_first_rows t.now)
