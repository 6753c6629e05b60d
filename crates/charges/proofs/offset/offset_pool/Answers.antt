use Rattle.std.proofs.Common.{ℕ, ℤ, arith}
use Rattle.std.proofs.lemmas.Int.{ints}
use Rattle.rows.specs.declared.figures.Cents.{Cents}
use Rattle.charges.specs.Amounts.{no_cents}
use Rattle.charges.proofs.Adding.{total_more}
use Rattle.charges.proofs.offset.offset_pool.Goals as goal

pub loop-i-preserved : goal.loop-i-preserved
loop-i-preserved c =
    let i : ℕ = c.loop-i.i in
    let of : Cents → ℤ = λ c. c.0 in
    let charged = c.add_assign.ensures.after in
    let some = c.add.ensures in
    let all = c.add-in-loop-i.ensures in
    record {
      value = omega (arith, ints, total_more of c.args.cc_6470.now i no_cents (omega arith), total_more of c.args.cc_6474.now i no_cents (omega arith), total_more of c.args.cc_6475.now i no_cents (omega arith));
      within = omega (arith, ints, c.requires.cc_6470 i no_cents (omega arith), c.requires.cc_6474 i no_cents (omega arith), c.requires.cc_6475 i no_cents (omega arith));
    }
