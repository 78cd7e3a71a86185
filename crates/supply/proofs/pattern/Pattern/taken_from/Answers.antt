-- The slots taken from a start on are the difference of those before its two ends, and at most x.
use Rattle.std.proofs.Common.{arith}
use Rattle.supply.specs.Rows.{from_between}
use Rattle.supply.specs.Share.{pattern}
use Rattle.supply.proofs.pattern.Pattern.taken_from.Goals as goal

pub overflow_sub-result : goal.overflow_sub-result
overflow_sub-result c = let p = c.args.self.now in omega (arith, from_between (pattern p.given p.of) c.args.start _ _ c.from.ensures)

pub overflow_cast-result : goal.overflow_cast-result
overflow_cast-result c = let p = c.args.self.now in omega (arith, c.ranges.x, from_between (pattern p.given p.of) c.args.start _ _ c.from.ensures)

pub returns : goal.returns
returns c = let p = c.args.self.now in omega (arith, from_between (pattern p.given p.of) c.args.start _ _ c.from.ensures)
