use Rattle.std.proofs.Common.{arith, w64, rules}
use Rattle.std.proofs.lemmas.Int.{to_z-of_z}
use Rattle.sharing.proofs.RunningSteps.{turn}
use Rattle.sharing.proofs.rules.running.RunningBySize.write_shares.Goals as goal

pub overflow_mul-now_earned : goal.overflow_mul-now_earned
overflow_mul-now_earned c = omega (arith, (turn _ c.args.division.now c.loop-i.invariant c.loop-i-test.true c.from-weight.ensures).product)

pub overflow_add-division : goal.overflow_add-division
overflow_add-division c = omega (arith, (turn _ c.args.division.now c.loop-i.invariant c.loop-i-test.true c.from-weight.ensures).size)

pub with_sign-requires : goal.with_sign-requires
with_sign-requires c = (turn _ c.args.division.now c.loop-i.invariant c.loop-i-test.true c.from-weight.ensures).size

pub loop-i-preserved : goal.loop-i-preserved
loop-i-preserved c =
    let t = (turn _ c.args.division.now c.loop-i.invariant c.loop-i-test.true c.from-weight.ensures).next in
    rw (to_z-of_z w64 c.with_sign.result (search rules)) (rw c.with_sign.ensures t)
