use Rattle.std.proofs.Common.{rules}
use Rattle.tables.proofs.Changed.{changed_put, replaced_same}
use Rattle.rows.specs.Records.{OfTest, set}
use Rattle.records.specs.Hours.{area_id}
use Rattle.records.proofs.placing.put_test.Goals as goal

pub returns-then-not-nopay_allowed : goal.returns-then-not-nopay_allowed
returns-then-not-nopay_allowed c = (c.in_ok-area.area.now, search rules, search rules, search rules, search (rules, replaced_same))

pub returns : goal.returns
returns c = (c.in_ok-area.area.now, search rules, search rules, changed_put area_id c.args.id c.args.areas.now (set OfTest c.args.quarter.index c.args.test) c.in_ok-area.area.now c.set_test.new.self (search rules) c.set_test.ensures)
