use Rattle.std.proofs.Common.{rules, arith}
use Rattle.deemed.proofs.Arrays.{map-from_IsMapOf}
use Rattle.deemed.proofs.SharedHour.{scheduled}
use Rattle.deemed.proofs.static_tie.static_units.Goals as goal

pub returns : goal.returns
returns c = scheduled c.args.tags _ (map-from_IsMapOf _ (λ t. record { 0 = t.kw.0 }) (omega arith) c.map.ensures.items (λ p q t u k. search rules))
