use Rattle.statement.proofs.Seen.{promises_seen}
use Rattle.statement.proofs.book.Book.lines.Goals as goal

pub returns-clause-promises : goal.returns-clause-promises
returns-clause-promises c = promises_seen c.self.invariant c.self.view_is
