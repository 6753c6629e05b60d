use Rattle.std.proofs.Common.{rules}
use Rattle.records.specs.declared.call.Call.TheVariants.{PostDemand}
use Rattle.records.proofs.SoundAfter.{sound_left}
use Rattle.records.proofs.records.Records.post_demand.Goals as goal

pub invariant_of-self : goal.invariant_of-self
invariant_of-self c = sound_left (PostDemand c.args.id c.args.interval c.args.units) c.self.invariant (search rules)
