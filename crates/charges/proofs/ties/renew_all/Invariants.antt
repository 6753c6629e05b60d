use Rattle.std.proofs.Common.{◌≡◌, ◌++◌, map, take, drop, None}
use Rattle.tables.specs.Refusals.{first_fit}
use Rattle.charges.specs.Energies.{new_energies}
use Rattle.charges.specs.Faults.{tie_fault}
use Rattle.charges.proofs.ties.renew_all.Given as goal

abbrev pub invariant-loop-i : goal.invariant-loop-i
invariant-loop-i g l = record {
  none_yet : first_fit (map tie_fault (take l.i l.resources)) ≡ None;
  made : l.table ≡ map (new_energies (g.R.SharingRule.shares l.rule)) (take l.i l.resources) ++ drop l.i l.initial.table;
}
