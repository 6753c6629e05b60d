use Rattle.std.proofs.Common.{◌++◌, ℕ, List, filter, ap, ◌∙◌, arith}
use Rattle.charges.specs.declared.amounts.IntervalAmounts.{IntervalAmounts}
use Rattle.statement.specs.declared.line.Line.{Line}
use Rattle.statement.specs.Lines.{is_billed}
use Rattle.statement.proofs.Adding.{code_added, codes_added}
use Rattle.statement.proofs.changes.add_party.Goals as goal

pub loop-code-preserved : goal.loop-code-preserved
loop-code-preserved c =
    let place : ℕ = c.args.interval.index in
    let new : IntervalAmounts = c.args.amounts.now in
    let earlier : IntervalAmounts = c.args.totals.now in
    let before : List Line = c.args.lines.now.items in
    let so_far : List Line = c.loop-code.lines.items in
    record {
      lines =
          c.add.ensures.lines
          ∙ code_added c.args.run place new earlier c.args.party.place c.args.party.id c.loop-code.code-index before so_far
          c.column.result.now c.column-in-loop-code.result.now c.change.result c.loop-code-test.true c.column.ensures c.column-in-loop-code.ensures c.change.ensures c.loop-code.invariant.lines;
      few = omega (arith, c.add.ensures.few);
    }

pub returns-clause-lines : goal.returns-clause-lines
returns-clause-lines c =
    let all = codes_added c.args.run c.args.interval.index c.args.amounts.now c.args.totals.now c.args.party.place c.args.party.id c.loop-code.code-index c.loop-code-test.false in
    c.loop-code.invariant.lines ∙ ap (λ l. c.args.lines.now.items ++ filter is_billed l) all
