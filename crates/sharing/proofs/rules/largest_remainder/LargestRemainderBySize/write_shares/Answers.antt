use Rattle.std.proofs.Common.{ℕ, ◌∙◌, arith, w64, rules}
use Rattle.std.proofs.lemmas.Int.{to_z-of_z}
use Rattle.std.proofs.lemmas.List.{length-set}
use Rattle.sharing.specs.LargestRemainder.{largest_remainder_size}
use Rattle.sharing.proofs.Sized.{put}
use Rattle.sharing.proofs.RemainderSteps.{bounds, place_from, size_from}
use Rattle.sharing.proofs.rules.largest_remainder.LargestRemainderBySize.write_shares.Goals as goal

pub with_sign-requires : goal.with_sign-requires
with_sign-requires c =
    let d = c.args.division.now in
    let size = size_from c.round_down-down.ensures (record { size = 0; remainder = 0 }) c.deref-floor-items.ensures.0 c.loop-i-test.true c.deref.ensures.0 c.rank_of.ensures c.from-extra.ensures in
    omega (arith, size, (bounds d c.loop-i.i (place_from c.round_down-down.ensures c.deref-floor-items.ensures.0 c.loop-i-test.true)).size)

pub overflow_add-floor : goal.overflow_add-floor
overflow_add-floor c =
    let d = c.args.division.now in
    let size = size_from c.round_down-down.ensures (record { size = 0; remainder = 0 }) c.deref-floor-items.ensures.0 c.loop-i-test.true c.deref.ensures.0 c.rank_of.ensures c.from-extra.ensures in
    omega (arith, size, (bounds d c.loop-i.i (place_from c.round_down-down.ensures c.deref-floor-items.ensures.0 c.loop-i-test.true)).size)

pub loop-i-preserved : goal.loop-i-preserved
loop-i-preserved c =
    let d = c.args.division.now in
    let sized : ℕ → ℕ = largest_remainder_size d.each d.rest d.weights.now in
    let size = size_from c.round_down-down.ensures (record { size = 0; remainder = 0 }) c.deref-floor-items.ensures.0 c.loop-i-test.true c.deref.ensures.0 c.rank_of.ensures c.from-extra.ensures in
    let place = place_from c.round_down-down.ensures c.deref-floor-items.ensures.0 c.loop-i-test.true in
    rw (to_z-of_z w64 c.with_sign.result (search rules)) (rw c.with_sign.ensures
    (length-set c.loop-i.at c.loop-i.i _ ∙ c.loop-i.invariant.0, put _ sized c.loop-i.at c.loop-i.i _ size (omega (arith, place, d.few, c.loop-i.invariant.0)) c.loop-i.invariant.1))
