-- CC 6476: the surcharge of an area on assistance energy transfers, which cover what it lacks in its tests. A kW over an interval
-- is a unit. Assumes nothing.
use Rattle.std.specs.Prelude.{ℕ, cond, ℤ, pos, ◌+ℤ◌, ◌-ℤ◌, ◌*ℤ◌, int_lt}
use Rattle.std.specs.Int.{int_max}
use Rattle.rows.specs.declared.figures.UnsignedEnergy.{UnsignedEnergy}
use Rattle.rows.specs.declared.area.Election.{Election}
use Rattle.rows.specs.declared.area.SufficiencyTest.{SufficiencyTest}
use Rattle.rows.specs.declared.area.Transfer.{Transfer}
use Rattle.rows.specs.declared.area.Area.{Area}
use Rattle.rows.specs.Slots.{quarter_of}
use Rattle.rows.specs.Posted.{test_at, transfer_at}
use Rattle.formulas.specs.Rounding.{to_cents}

-- F, by how much the area failed its tests: the larger of capacity and ramp
abbrev pub failed_capacity : SufficiencyTest → ℤ
failed_capacity t = int_max t.capacity.kilowatts.0 t.ramp.kilowatts.0

-- what was transferred beyond the base schedules
abbrev pub beyond_base : UnsignedEnergy → UnsignedEnergy → ℤ
beyond_base transferred base = transferred.units.0 -ℤ base.units.0

-- T, what was transferred to the area, less what was transferred from it
abbrev pub transferred : Transfer → ℤ
transferred t = beyond_base t.to t.base_to -ℤ beyond_base t.from t.base_from

-- the credit, what is not charged: up, less nopay of the election and of the test
abbrev pub credit : Election → SufficiencyTest → ℤ
credit e t = e.up.kilowatts.0 -ℤ (e.nopay.kilowatts.0 +ℤ t.nopay.kilowatts.0)

-- the energy that is charged to an area that is in: T less the credit where T is below F, else F
abbrev pub surcharge_quantity : Election → SufficiencyTest → Transfer → ℤ
surcharge_quantity e test transfer =
    let f = failed_capacity test in
    let t = transferred transfer in
    cond e.opted_in (cond (int_lt t f) (t -ℤ credit e test) f) (pos 0)

-- at the bid cap, in cents
unfoldable pub surcharge_pool : Election → SufficiencyTest → Transfer → ℤ
surcharge_pool e test transfer = to_cents (e.cap.steps.0 *ℤ surcharge_quantity e test transfer)

-- the area's pool for an interval
abbrev pub area_pool : ℕ → Area → ℤ
area_pool index a = surcharge_pool a.election (test_at (quarter_of index) a) (transfer_at index a)
