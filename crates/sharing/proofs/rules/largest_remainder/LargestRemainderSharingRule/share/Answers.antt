use Rattle.std.proofs.Common.{refl, w64}
use Rattle.std.proofs.lemmas.Int.{to_z-of_z}
use Rattle.sharing.specs.LargestRemainder.{largest_remainder}
use Rattle.sharing.proofs.Hands.{shared_as}
use Rattle.sharing.proofs.ByRemainder.{answer_by_remainder}
use Rattle.sharing.proofs.rules.largest_remainder.LargestRemainderSharingRule.share.Goals as goal

pub returns-clause-by_remainder : goal.returns-clause-by_remainder
unfolding largest_remainder
returns-clause-by_remainder c =
    answer_by_remainder c.args.pool c.args.weights.now c.share_by_size.result
    (shared_as largest_remainder c.share_by_size.result _ _ _ _ (to_z-of_z w64 c.args.pool c.ranges.pool) refl c.share_by_size.ensures)
