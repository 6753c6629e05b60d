use Rattle.std.proofs.Common.{w64, rules, arith}
use Rattle.std.proofs.lemmas.Int.{ints, fits_signed_from_abs}
use Rattle.formulas.proofs.imbalance.priced_energy.Goals as goal

pub add-requires-2 : goal.add-requires-2
add-requires-2 c =
    let e = c.args.energy.now in
    fits_signed_from_abs w64 _ (omega (arith, ints, e.iie.within, e.mssiie.within, c.operational_adjustment-adjustment.ensures.within, c.add.ensures))

pub add-requires-3 : goal.add-requires-3
add-requires-3 c =
    let e = c.args.energy.now in
    fits_signed_from_abs w64 _ (omega (arith, ints, e.iie.within, e.mssiie.within, e.above.within, c.operational_adjustment-adjustment.ensures.within, c.add.ensures, c.add-2.ensures))

pub returns-clause-value : goal.returns-clause-value
returns-clause-value c = search rules

pub returns-clause-within : goal.returns-clause-within
returns-clause-within c =
    let e = c.args.energy.now in
    omega (arith, ints, e.iie.within, e.mssiie.within, e.above.within, c.operational_adjustment-adjustment.ensures.within, c.add.ensures, c.add-2.ensures, c.add-3.ensures)
