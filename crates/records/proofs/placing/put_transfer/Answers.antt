use Rattle.std.proofs.Common.{rules, refl}
use Rattle.tables.proofs.Changed.{changed_put}
use Rattle.rows.specs.Records.{OfTransfer, set}
use Rattle.records.specs.Hours.{area_id}
use Rattle.records.proofs.placing.put_transfer.Goals as goal

pub returns : goal.returns
returns c = (
  c.in_ok-area.area.now,
  search rules,
  refl,
  changed_put area_id c.args.id c.args.areas.now (set OfTransfer c.args.interval.index c.args.transfer) c.in_ok-area.area.now c.set_transfer.new.self (search rules) c.set_transfer.ensures,
)
