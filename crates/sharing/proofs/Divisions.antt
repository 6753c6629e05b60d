-- What is known of a pool's size that is taken apart by the weights, in terms of their total. Assumes nothing.
use Rattle.std.specs.Prelude.{◌≡◌, ◌+◌, ◌*◌, ◌<◌, ◌≤◌, sum}
use Rattle.std.proofs.Common.{ap, arith}
use Rattle.sharing.specs.Limits.{most_pool, most_total}
use Rattle.sharing.specs.declared.rules.division.Division.{Division}

pub record Divided (d : Division) : Type 0 where
  pub part : d.rest < sum d.weights.now
  pub light : sum d.weights.now ≤ most_total
  pub small : d.each * sum d.weights.now + d.rest ≤ most_pool

pub divided : (d : Division) → Divided d
divided d =
    let all : d.total ≡ sum d.weights.now = d.all in
    let part : d.rest < d.total = d.part in
    let light : d.total ≤ most_total = d.light in
    let small : d.each * d.total + d.rest ≤ most_pool = d.small in
    let same : d.each * d.total ≡ d.each * sum d.weights.now = ap (λ x. d.each * x) all in
    record { part = omega arith; light = omega arith; small = omega arith }
