use Rattle.std.proofs.Common.{rules}
use Rattle.tables.proofs.Changed.{changed_put, replaced_same}
use Rattle.rows.specs.Records.{OfElection, set}
use Rattle.records.specs.Hours.{area_id}
use Rattle.records.proofs.placing.put_election.Goals as goal

pub returns-then-not-nopay_allowed : goal.returns-then-not-nopay_allowed
returns-then-not-nopay_allowed c = (c.in_ok-area.area.now, search rules, search rules, search rules, search (rules, replaced_same))

pub returns : goal.returns
returns c = (c.in_ok-area.area.now, search rules, search rules, changed_put area_id c.args.id c.args.areas.now (set OfElection 0 c.args.election) c.in_ok-area.area.now c.set_election.new.self (search rules) c.set_election.ensures)
