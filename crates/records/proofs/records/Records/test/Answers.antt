use Rattle.std.proofs.Common.{rules}
use Rattle.rows.specs.Records.{OfTest}
use Rattle.records.proofs.SlotTold.{slot_answer}
use Rattle.records.proofs.records.Records.test.Goals as goal

pub returns : goal.returns
returns c =
    slot_answer OfTest c.args.id c.args.quarter c.args.self.now c.in_ok-area.area.now _ _
    (search rules) (search rules) (search rules) (search rules) (search rules)
