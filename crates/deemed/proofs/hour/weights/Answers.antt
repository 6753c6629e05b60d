use Rattle.std.proofs.Common.{rules, arith}
use Rattle.deemed.specs.Tags.{weight}
use Rattle.deemed.proofs.Arrays.{map-from_IsMapOf}
use Rattle.deemed.proofs.hour.weights.Goals as goal

pub returns-clause-weights : goal.returns-clause-weights
returns-clause-weights c = map-from_IsMapOf _ weight (omega arith) c.map.ensures.items (λ p q t w k. search rules)
