use Rattle.std.proofs.Common.{rules}
use Rattle.deemed.specs.Hours.{units_of}
use Rattle.deemed.proofs.Arrays.{map-from_IsMapOf}
use Rattle.deemed.proofs.hour.TieHour.units.Goals as goal

pub returns : goal.returns
unfolding units_of
returns c = map-from_IsMapOf _ (λ i. i.deemed) c.args.self.now.long c.map.ensures.items (λ p q i u k. search rules)
