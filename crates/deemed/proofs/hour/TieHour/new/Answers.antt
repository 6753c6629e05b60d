use Rattle.std.proofs.Common.{◌≡◌, length, rules, arith}
use Rattle.deemed.specs.Ranges.{hour_length}
use Rattle.deemed.proofs.Arrays.{map-from_IsMapOf}
use Rattle.deemed.proofs.Intervals.{not_yet, unshared}
use Rattle.deemed.proofs.hour.TieHour.new.Goals as goal

pub returns : goal.returns
returns c =
    let long : length c.args.weights ≡ hour_length = omega arith in
    unshared c.args.weights _ long (map-from_IsMapOf _ not_yet long c.map.ensures.items (λ p q w i k. search rules))
