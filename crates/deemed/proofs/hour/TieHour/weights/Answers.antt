use Rattle.std.proofs.Common.{rules}
use Rattle.deemed.specs.Hours.{weights_of}
use Rattle.deemed.proofs.Arrays.{map-from_IsMapOf}
use Rattle.deemed.proofs.hour.TieHour.weights.Goals as goal

pub returns : goal.returns
unfolding weights_of
returns c = map-from_IsMapOf _ (λ i. i.weight) c.args.self.now.long c.map.ensures.items (λ p q i w k. search rules)
