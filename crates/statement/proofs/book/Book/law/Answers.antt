use Rattle.statement.proofs.Promised.{histories_keep_promises}
use Rattle.statement.proofs.LastPosts.{histories_keep_records}
use Rattle.statement.proofs.OneOutcome.{one_outcome}
use Rattle.statement.proofs.Seen.{promises_seen}
use Rattle.statement.proofs.book.Book.law.Goals as goal

pub returns-clause-law : goal.returns-clause-law
returns-clause-law c = histories_keep_promises

pub returns-clause-kept : goal.returns-clause-kept
returns-clause-kept c = histories_keep_records

pub returns-clause-promises : goal.returns-clause-promises
returns-clause-promises c = promises_seen c.self.invariant c.self.view_is

pub returns-clause-one_outcome : goal.returns-clause-one_outcome
returns-clause-one_outcome c = one_outcome
