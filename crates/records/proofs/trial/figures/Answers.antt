use Rattle.std.proofs.Common.{rules}
use Rattle.records.proofs.trial.figures.Goals as goal

pub returns-in_err-of : goal.returns-in_err-of
returns-in_err-of c = search rules

pub returns : goal.returns
returns c = search rules
