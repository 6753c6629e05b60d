use Rattle.std.proofs.Common.{◌≡◌, ◌≤◌, length, take}
use Rattle.charges.specs.Claims.{claims_in}
use Rattle.charges.proofs.claims.claims_of.Given as goal

abbrev pub invariant-loop-party : goal.invariant-loop-party
invariant-loop-party l =
    (l.claims.items ≡ claims_in l.interval.index l.area (take l.party-index l.parties))
    × (length l.claims.items ≤ l.party-index)
