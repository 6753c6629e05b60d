use Rattle.statement.proofs.Keeping.{kept_opened}
use Rattle.statement.proofs.LastPosts.{histories_keep_records}
use Rattle.statement.proofs.Seen.{promises_kept}
use Rattle.statement.proofs.book.Book.open.Goals as goal

pub invariant_of-result : goal.invariant_of-result
invariant_of-result c =
    let kept = kept_opened c.args.areas c.args.parties c.args.resources c.args.lines in
    rw (c.in_ok-statement.ensures, c.none.ensures) kept

pub returns-clause-history : goal.returns-clause-history
returns-clause-history c = (invariant_of-result c).history

pub returns-clause-promises : goal.returns-clause-promises
returns-clause-promises c = promises_kept (invariant_of-result c)

pub returns-clause-kept : goal.returns-clause-kept
returns-clause-kept c = histories_keep_records
