use Rattle.std.proofs.Common.{[], subst}
use Rattle.reader.specs.Feeding.{Led}
use Rattle.reader.proofs.OneOutput.{one_output}
use Rattle.reader.proofs.program.run.Goals as goal

pub print_input-requires-clause-at_start : goal.print_input-requires-clause-at_start
print_input-requires-clause-at_start g c = subst (λ start. Led start [] c.new-reader.result []) c.in_ok-book.ensures.empty c.new-reader.ensures

pub returns-clause-one_output : goal.returns-clause-one_output
returns-clause-one_output g c = one_output

pub returns-in_err-block-clause-one_output : goal.returns-in_err-block-clause-one_output
returns-in_err-block-clause-one_output g c = one_output

pub returns-in_err-book-clause-one_output : goal.returns-in_err-book-clause-one_output
returns-in_err-book-clause-one_output g c = one_output
