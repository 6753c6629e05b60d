use Rattle.std.proofs.Common.{rules}
use Rattle.records.specs.declared.call.Call.TheVariants.{PostTransfer}
use Rattle.records.proofs.SoundAfter.{sound_left}
use Rattle.records.proofs.records.Records.post_transfer.Goals as goal

pub invariant_of-self : goal.invariant_of-self
invariant_of-self c = sound_left (PostTransfer c.args.id c.args.interval c.args.post) c.self.invariant (search rules)

pub returns-clause-answer : goal.returns-clause-answer
returns-clause-answer c = search rules
