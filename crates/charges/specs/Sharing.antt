-- Pools shared area by area. Assumes nothing.
use Rattle.std.specs.Prelude.{◌≡◌, ◌≢◌, List, map, length, drop, Some, None, ℤ, Result, Ok, Err}
use Rattle.std.specs.List.{All, AllPairs}
use Rattle.tables.specs.Refusals.{Fit, first_fit}
use Rattle.rows.specs.declared.figures.Cents.{Cents}
use Rattle.rows.specs.declared.area.Area.{Area}
use Rattle.rows.specs.declared.party.Party.{Party}
use Rattle.charges.specs.declared.fault.ChargeFault.{ChargeFault}
use Rattle.charges.specs.Columns.{cents_in}

-- no two areas have one id
abbrev pub Distinct : List Area → Type 0
Distinct areas = AllPairs (λ a b. a.id ≢ b.id) areas

-- the parties of each area have their shares in a column, where no fault fits, and else the first that fits is answered
abbrev pub SharedByArea : {T : Type 0} → (Area → Fit ChargeFault) → (Area → List ℤ) → List Area → List Party
    → List Cents → List Cents → Result T ChargeFault → Type 0
SharedByArea faults shares areas parties before after (Ok _) =
    (first_fit (map faults areas) ≡ None)
    × All (λ a. cents_in a.id parties after ≡ shares a) areas
    × (drop (length parties) after ≡ drop (length parties) before)
    × (length after ≡ length before)
SharedByArea faults shares areas parties before after (Err f) = first_fit (map faults areas) ≡ Some f
