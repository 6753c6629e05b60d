-- What stands with a resource for which nothing is deemed. Assumes nothing.
use Rattle.std.proofs.Common.{◌≡◌, replicate, refl}
use Rattle.deemed.specs.Ranges.{hour_length}
use Rattle.rows.specs.Figures.{as_deemed, no_units}
use Rattle.rows.specs.Rows.{nothing_deemed}

-- no energy in each interval
pub nothing_deemed_is : nothing_deemed ≡ replicate hour_length (as_deemed no_units)
unfolding nothing_deemed
nothing_deemed_is = refl
