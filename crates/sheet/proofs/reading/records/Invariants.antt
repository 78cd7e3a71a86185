use Rattle.std.proofs.Common.{◌-◌, length}
use Rattle.sheet.proofs.reading.records.Given as goal
use Rattle.sheet.specs.Reading.{Going}

abbrev pub invariant-loop-size : goal.invariant-loop-size
invariant-loop-size l = Going l.roster l.bytes l.at l.before

abbrev pub decreases-loop-size : goal.decreases-loop-size
decreases-loop-size l = length l.initial.bytes - l.at
