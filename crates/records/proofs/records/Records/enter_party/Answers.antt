use Rattle.std.proofs.Common.{rules}
use Rattle.records.specs.declared.call.Call.TheVariants.{EnterParty}
use Rattle.records.proofs.SoundAfter.{sound_left}
use Rattle.records.proofs.records.Records.enter_party.Goals as goal

pub invariant_of-self : goal.invariant_of-self
invariant_of-self c = sound_left (EnterParty c.args.id c.args.area) c.self.invariant (search rules)
