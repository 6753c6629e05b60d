use Rattle.std.proofs.Common.{◌≡◌, take}
use Rattle.deemed.specs.Tags.{pool}
use Rattle.deemed.proofs.hour.pool.Given as goal

abbrev pub invariant-loop-tag : goal.invariant-loop-tag
invariant-loop-tag l = l.sum.0 ≡ pool (take l.tag-index l.fn.tags)
