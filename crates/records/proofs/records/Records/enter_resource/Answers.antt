use Rattle.std.proofs.Common.{rules}
use Rattle.records.specs.declared.call.Call.TheVariants.{EnterResource}
use Rattle.records.proofs.SoundAfter.{sound_left}
use Rattle.records.proofs.records.Records.enter_resource.Goals as goal

pub returns-clause-answer : goal.returns-clause-answer
returns-clause-answer c = search rules

pub returns-clause-records : goal.returns-clause-records
returns-clause-records c = search rules

pub invariant_of-self : goal.invariant_of-self
invariant_of-self c = sound_left (EnterResource c.args.id c.args.owner c.args.kind c.args.net c.args.exempt) c.self.invariant (search rules)
