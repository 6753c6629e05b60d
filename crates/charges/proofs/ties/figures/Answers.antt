use Rattle.std.proofs.Common.{arith}
use Rattle.rows.specs.Figures.{as_deemed}
use Rattle.rows.proofs.FigureLaws.{deemed_of_units}
use Rattle.charges.proofs.Filling.{filled_more}
use Rattle.charges.proofs.ties.figures.Goals as goal

pub loop-i-preserved : goal.loop-i-preserved
loop-i-preserved c =
    filled_more as_deemed c.args.units _ c.loop-i.energies c.loop-i.i _ _ (omega arith) (omega arith) c.loop-i.invariant (deemed_of_units _)
