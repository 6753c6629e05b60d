use Rattle.words.proofs.ReadBack.{numbers_read_back}
use Rattle.words.proofs.numbers.number.Goals as goal

pub returns-in-45-clause-reads_back : goal.returns-in-45-clause-reads_back
returns-in-45-clause-reads_back c = numbers_read_back

pub returns-in_default-clause-reads_back : goal.returns-in_default-clause-reads_back
returns-in_default-clause-reads_back c = numbers_read_back
