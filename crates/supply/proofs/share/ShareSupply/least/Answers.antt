use Rattle.std.proofs.Common.{arith}
use Rattle.std.proofs.lemmas.Grind.{common_steps}
use Rattle.supply.specs.Patterns.{pattern_bounds}
use Rattle.supply.proofs.share.ShareSupply.least.Goals as goal

pub overflow_mul-result : goal.overflow_mul-result
overflow_mul-result g c = grind (arith, common_steps, pattern_bounds)

pub overflow_add-result : goal.overflow_add-result
overflow_add-result g c = grind (arith, common_steps, pattern_bounds)
