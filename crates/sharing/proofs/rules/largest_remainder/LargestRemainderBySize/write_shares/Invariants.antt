use Rattle.std.proofs.Common.{◌≡◌, length, map, take}
use Rattle.std.specs.List.{range_with_len}
use Rattle.sharing.specs.Limits.{most_weights}
use Rattle.sharing.specs.Sizes.{with_sign}
use Rattle.sharing.specs.LargestRemainder.{largest_remainder_size}
use Rattle.sharing.proofs.rules.largest_remainder.LargestRemainderBySize.write_shares.Given as goal

abbrev pub invariant-loop-i : goal.invariant-loop-i
invariant-loop-i l =
    (length l.at ≡ most_weights)
    × (take l.i l.at ≡ map (with_sign l.pool) (map (largest_remainder_size l.division.each l.division.rest l.division.weights.now) (range_with_len 0 l.i)))
