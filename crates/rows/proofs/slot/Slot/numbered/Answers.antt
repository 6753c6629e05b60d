use Rattle.std.proofs.Common.{◌≡◌, false, to_z, of_z, w64, rules, arith}
use Rattle.std.proofs.lemmas.Int.{ints}
use Rattle.rows.specs.Slots.{is_slot}
use Rattle.rows.proofs.Slots.{slot_within, slot_outside}
use Rattle.rows.proofs.slot.Slot.numbered.Goals as goal

pub returns-in_err-number : goal.returns-in_err-number
returns-in_err-number g c =
    let cast : to_z w64 (of_z w64 c.args.number) ≡ c.args.number = grind (arith, ints) in
    let no : is_slot g.row.COUNT c.args.number ≡ false =
    slot_outside g.row.COUNT _ c.args.number (λ less. grind (arith, ints)) (rw cast at c.in_err-number.ensures.tested.0) in
    search rules

pub returns : goal.returns
returns g c =
    let cast : to_z w64 (of_z w64 c.args.number) ≡ c.args.number = grind (arith, ints) in
    let tested = c.in_ok-number.ensures.tested in
    let in' = c.in_ok-number.ensures.within in
    let same = tested.1 in
    (slot_within g.row.COUNT _ c.args.number (grind (arith, ints)) (rw cast at tested.0), grind (arith, ints))
