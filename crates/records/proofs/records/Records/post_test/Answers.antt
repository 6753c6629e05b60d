use Rattle.std.proofs.Common.{rules}
use Rattle.records.specs.declared.call.Call.TheVariants.{PostTest}
use Rattle.records.proofs.SoundAfter.{sound_left}
use Rattle.records.proofs.records.Records.post_test.Goals as goal

pub invariant_of-self : goal.invariant_of-self
invariant_of-self c = sound_left (PostTest c.args.id c.args.quarter c.args.post) c.self.invariant (search rules)
