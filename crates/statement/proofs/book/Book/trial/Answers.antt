use Rattle.std.proofs.Common.{sym, subst}
use Rattle.statement.specs.Tallies.{Kept}
use Rattle.statement.proofs.book.Book.trial.Goals as goal

pub invariant_of-self : goal.invariant_of-self
invariant_of-self c = subst (λ h. Kept (record c.self.inside.statement { records = h }) c.self.inside.totals) (sym c.trial.ensures.kept) c.self.invariant
