use Rattle.std.proofs.Common.{rules}
use Rattle.records.specs.declared.call.Call.TheVariants.{EnterArea}
use Rattle.records.proofs.SoundAfter.{sound_left}
use Rattle.records.proofs.records.Records.enter_area.Goals as goal

pub invariant_of-self : goal.invariant_of-self
invariant_of-self c = sound_left (EnterArea c.args.id c.args.kind) c.self.invariant (search rules)
