use Rattle.std.proofs.Common.{rules}
use Rattle.records.specs.declared.call.Call.TheVariants.{PostEnergy}
use Rattle.records.proofs.SoundAfter.{sound_left}
use Rattle.records.proofs.records.Records.post_energy.Goals as goal

pub returns-clause-answer : goal.returns-clause-answer
returns-clause-answer c = search rules

pub returns-clause-records : goal.returns-clause-records
returns-clause-records c = search rules

pub invariant_of-self : goal.invariant_of-self
invariant_of-self c = sound_left (PostEnergy c.args.id c.args.interval c.args.post) c.self.invariant (search rules)
