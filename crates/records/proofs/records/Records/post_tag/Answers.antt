use Rattle.std.proofs.Common.{rules}
use Rattle.records.specs.declared.call.Call.TheVariants.{PostTag}
use Rattle.records.proofs.SoundAfter.{sound_left}
use Rattle.records.proofs.records.Records.post_tag.Goals as goal

pub invariant_of-self : goal.invariant_of-self
invariant_of-self c = sound_left (PostTag c.args.id c.args.interval c.args.post) c.self.invariant (search rules)
