use Rattle.std.proofs.Common.{◌≡◌, ◌++◌, map, take, drop}
use Rattle.rows.specs.Figures.{as_deemed}
use Rattle.charges.proofs.ties.figures.Given as goal

abbrev pub invariant-loop-i : goal.invariant-loop-i
invariant-loop-i l = l.energies ≡ map as_deemed (take l.i l.units) ++ drop l.i l.initial.energies
