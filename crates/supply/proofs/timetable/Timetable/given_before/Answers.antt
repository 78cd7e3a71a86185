-- Whole turns by the ones of the word and the slots left over by the ones of its lowest bits are what the row gives, so no sum passes x.
use Rattle.std.proofs.Common.{arith}
use Rattle.supply.proofs.Bits.{before_by_ones}
use Rattle.supply.proofs.timetable.Timetable.given_before.Goals as goal

pub overflow_mul-result : goal.overflow_mul-result
overflow_mul-result c =
    let t = c.args.self.now in
    omega (arith, c.ranges.x, before_by_ones t.length t.word c.args.x _ t.lawful c.from-turn.ensures)

pub overflow_add-result : goal.overflow_add-result
overflow_add-result c =
    let t = c.args.self.now in
    omega (arith, c.ranges.x, before_by_ones t.length t.word c.args.x _ t.lawful c.from-turn.ensures)

pub returns : goal.returns
returns c = let t = c.args.self.now in (before_by_ones t.length t.word c.args.x _ t.lawful c.from-turn.ensures).0
