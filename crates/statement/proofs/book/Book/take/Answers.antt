use Rattle.std.proofs.Common.{List, sym, subst}
use Rattle.charges.specs.declared.amounts.IntervalAmounts.{IntervalAmounts}
use Rattle.statement.specs.Tallies.{Kept}
use Rattle.statement.proofs.Keeping.{kept_taken}
use Rattle.statement.proofs.Seen.{promises_kept}
use Rattle.statement.proofs.book.Book.take.Goals as goal

pub invariant_of-self : goal.invariant_of-self
invariant_of-self c =
    let totals : List IntervalAmounts = c.self.inside.totals in
    subst (λ b. Kept b totals) (sym c.take.ensures.statement) (kept_taken c.args.call c.self.inside.statement totals c.self.invariant)

pub returns-clause-history : goal.returns-clause-history
returns-clause-history c = (invariant_of-self c).history

pub returns-clause-promises : goal.returns-clause-promises
returns-clause-promises c = promises_kept (invariant_of-self c)
