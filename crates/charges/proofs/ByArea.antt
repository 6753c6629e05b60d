-- A column behind whose parties nothing stands, by the areas of its parties. Assumes nothing.
use Rattle.std.proofs.Common.{◌≡◌, ◌≤◌, ◌-◌, ℕ, List, map, length, drop, unsigned_abs, ◌∙◌}
use Rattle.std.specs.List.{All}
use Rattle.sharing.specs.Laws.{total}
use Rattle.rows.specs.declared.figures.Cents.{Cents}
use Rattle.rows.specs.declared.area.Area.{Area}
use Rattle.rows.specs.declared.party.Party.{Party}
use Rattle.records.specs.Ranges.{most_parties}
use Rattle.charges.specs.Columns.{entries_in, cents_in}
use Rattle.charges.specs.Sharing.{Distinct}
use Rattle.charges.specs.Amounts.{rest, cents}
use Rattle.charges.proofs.Areas.{Home, total_by_area, all_by_area}
use Rattle.charges.proofs.Totals.{total_at_front}
use Rattle.charges.proofs.Bounded.{shared_bounded}

module _ (areas : List Area) (parties : List Party) (column : List Cents) (homes : All (Home areas) parties) (behind : drop (length parties) column ≡ rest parties) where
  -- its total is that of what the areas' parties have
  pub paid_by_area : Distinct areas → total (cents column) ≡ total (map (λ a. total (cents_in a.id parties column)) areas)
  paid_by_area distinct = total_at_front (length parties) (most_parties - length parties) column behind ∙ total_by_area areas parties column distinct homes

  -- and its cents are as small as theirs
  pub bounded_by_area : (m : ℕ) → All (λ a. All (λ e. unsigned_abs e.1.0 ≤ m) (entries_in a.id parties column)) areas → All (λ c. unsigned_abs c.0 ≤ m) column
  bounded_by_area m each =
      shared_bounded m parties column (most_parties - length parties) (all_by_area (λ e. unsigned_abs e.1.0 ≤ m) areas parties column homes each) behind
