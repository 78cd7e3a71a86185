-- The slots given from a start on are the difference of those before its two ends, and at most n.
use Rattle.std.proofs.Common.{ap, arith}
use Rattle.supply.specs.Row.{from}
use Rattle.supply.specs.Rows.{from_between}
use Rattle.supply.specs.Timetable.{bits}
use Rattle.supply.proofs.timetable.Timetable.given_from.Goals as goal

pub overflow_sub-result : goal.overflow_sub-result
overflow_sub-result c = let t = c.args.self.now in omega (arith, from_between (bits t.length t.word) c.from-start.result _ _ c.from.ensures)

pub overflow_cast-result : goal.overflow_cast-result
overflow_cast-result c = let t = c.args.self.now in omega (arith, c.ranges.n, from_between (bits t.length t.word) c.from-start.result _ _ c.from.ensures)

pub returns : goal.returns
returns c =
    let t = c.args.self.now in
    let same = ap (λ p. from (bits t.length t.word) p c.args.n) c.from-start.ensures in
    omega (arith, same, from_between (bits t.length t.word) c.from-start.result _ _ c.from.ensures)
