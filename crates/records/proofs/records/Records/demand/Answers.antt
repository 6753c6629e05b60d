use Rattle.std.proofs.Common.{rules}
use Rattle.rows.specs.Records.{OfDemand}
use Rattle.records.proofs.SlotTold.{slot_answer}
use Rattle.records.proofs.records.Records.demand.Goals as goal

pub returns : goal.returns
returns c =
    slot_answer OfDemand c.args.id c.args.interval c.args.self.now c.in_ok-party.party.now _ _
    (search rules) (search rules) (search rules) (search rules) (search rules)
