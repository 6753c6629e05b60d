use Rattle.std.proofs.Common.{rules}
use Rattle.statement.proofs.book.Book.post_energy.Goals as goal

pub returns-clause-stands : goal.returns-clause-stands
returns-clause-stands c = search rules
