-- A shift that leaves something shows that a bit stands from the length upward.
use Rattle.supply.proofs.Bits.{some_above}
use Rattle.supply.proofs.timetable.making.within.Goals as goal

pub returns-else-length-eq64-clause-outside : goal.returns-else-length-eq64-clause-outside
returns-else-length-eq64-clause-outside c e = some_above c.args.word c.args.length e
