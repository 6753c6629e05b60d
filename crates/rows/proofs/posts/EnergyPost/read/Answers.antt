use Rattle.std.proofs.Common.{rules}
use Rattle.rows.specs.Posts.{energy_in_range, energy_record}
use Rattle.rows.proofs.posts.EnergyPost.read.Goals as goal

pub returns : goal.returns
unfolding energy_in_range energy_record
returns c = (search rules, search rules)
