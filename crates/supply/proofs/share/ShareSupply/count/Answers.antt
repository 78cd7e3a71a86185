use Rattle.std.proofs.Common.{arith}
use Rattle.std.proofs.lemmas.Grind.{common_steps}
use Rattle.supply.specs.Patterns.{pattern_bounds}
use Rattle.supply.proofs.share.ShareSupply.count.Goals as goal

pub nonzero_rem-own : goal.nonzero_rem-own
nonzero_rem-own g c = grind (arith, common_steps, pattern_bounds, g.met.B.Supply.counts)

pub taken_from-requires : goal.taken_from-requires
taken_from-requires g c = grind (arith, common_steps, pattern_bounds, g.met.B.Supply.counts)

pub returns-in-Some : goal.returns-in-Some
returns-in-Some g c = grind (arith, common_steps, pattern_bounds, g.met.B.Supply.counts)
