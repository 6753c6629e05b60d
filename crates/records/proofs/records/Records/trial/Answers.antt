use Rattle.std.proofs.Common.{rules}
use Rattle.records.proofs.records.Records.trial.Goals as goal

pub returns-in_err-id-clause-answer : goal.returns-in_err-id-clause-answer
returns-in_err-id-clause-answer c = search rules

pub returns-in_err-interval-clause-answer : goal.returns-in_err-interval-clause-answer
returns-in_err-interval-clause-answer c = search rules

pub returns-in_err-energy-clause-answer : goal.returns-in_err-energy-clause-answer
returns-in_err-energy-clause-answer c = search rules

pub returns-clause-answer : goal.returns-clause-answer
returns-clause-answer c = search rules
