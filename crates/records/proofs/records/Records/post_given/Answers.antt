use Rattle.std.proofs.Common.{rules}
use Rattle.records.specs.declared.call.Call.TheVariants.{PostGiven}
use Rattle.records.proofs.SoundAfter.{sound_left}
use Rattle.records.proofs.records.Records.post_given.Goals as goal

pub invariant_of-self : goal.invariant_of-self
invariant_of-self c = sound_left (PostGiven c.args.id c.args.interval c.args.code c.args.cents) c.self.invariant (search rules)
