-- A column of cents: one for each party, in the order entered, and perhaps more behind them. What of it belongs to the parties
-- of an area, and what these weigh there. Assumes nothing.
use Rattle.std.specs.Prelude.{ℕ, ◌==◌, List, map, filter, ℤ, unsigned_abs}
use Rattle.std.specs.List.{zip}
use Rattle.rows.specs.declared.figures.Cents.{Cents}
use Rattle.rows.specs.declared.kinds.AreaKind.{AreaKind}
use Rattle.rows.specs.declared.kinds.AreaKind.TheVariants.{Ciso, Weim}
use Rattle.rows.specs.declared.area.Area.{Area}
use Rattle.rows.specs.declared.party.Party.{Party}
use Rattle.rows.specs.Posted.{demand_at}

-- the parties of an area, by its id, in the order entered
abbrev pub parties_in : ℕ → List Party → List Party
parties_in area parties = filter (λ p. p.area == area) parties

-- they, each with its cents
abbrev pub entries_in : ℕ → List Party → List Cents → List (Party × Cents)
entries_in area parties column = filter (λ e. e.0.area == area) (zip parties column)

-- their cents as numbers
abbrev pub cents_in : ℕ → List Party → List Cents → List ℤ
cents_in area parties column = map (λ e. e.1.0) (entries_in area parties column)

-- In an interval, by its index from 0, a party of the CISO area weighs its demand, and one of a WEIM area 1.
unfoldable pub weight : AreaKind → ℕ → Party → ℕ
weight Ciso index p = unsigned_abs (demand_at index p).units.0
weight Weim index p = 1

-- what the parties of an area weigh
abbrev pub weights : ℕ → Area → List Party → List ℕ
weights index area parties = map (weight area.kind index) (parties_in area.id parties)
