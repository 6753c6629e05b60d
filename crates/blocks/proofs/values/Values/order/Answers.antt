use Rattle.std.proofs.Common.{rules}
use Rattle.blocks.proofs.values.Values.order.Goals as goal

pub returns-in-Resource : goal.returns-in-Resource
returns-in-Resource c = rw c.in-Resource.is (search rules)

pub returns-in-Demand : goal.returns-in-Demand
returns-in-Demand c = rw c.in-Demand.is (search rules)

pub returns-in-Given : goal.returns-in-Given
returns-in-Given c = rw c.in-Given.is (search rules)
