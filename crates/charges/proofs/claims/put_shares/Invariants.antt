use Rattle.std.proofs.Common.{◌≡◌, ◌+◌, ◌++◌, length, take, drop}
use Rattle.charges.specs.Columns.{parties_in}
use Rattle.charges.proofs.Putting.{put}
use Rattle.charges.proofs.claims.put_shares.Given as goal

-- what is put in all is what is put already, and then what the claims that are left put into the rest of the column
abbrev pub invariant-loop-i : goal.invariant-loop-i
invariant-loop-i l = record {
  put_so_far : put l.area l.parties l.claims l.initial.column ≡ take l.i l.column ++ put l.area (drop l.i l.parties) (drop l.next l.claims) (drop l.i l.column);
  one_each : l.next + length (parties_in l.area (drop l.i l.parties)) ≡ length l.claims;
  long : length l.column ≡ length l.initial.column;
}
