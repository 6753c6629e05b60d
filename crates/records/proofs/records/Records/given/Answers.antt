use Rattle.std.proofs.Common.{rules, ap}
use Rattle.records.specs.Calls.{at}
use Rattle.records.specs.Readings.{answer_at}
use Rattle.records.proofs.SlotTold.{given_told}
use Rattle.records.proofs.records.Records.given.Goals as goal

pub returns : goal.returns
returns c =
    ap (answer_at (at c.args.interval c.args.id))
    (given_told c.in_ok-code.code c.args.id c.args.interval c.args.code c.args.self.now c.in_ok-party.party.now c.in_ok-interval.interval.index c.given.result
    (search rules) (search rules) (search rules) (search rules) (search rules) c.given.ensures.slot)
