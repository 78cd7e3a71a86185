-- The search that closes it is named, so that a wrong body is refused without the longer ones.
use Rattle.std.proofs.Common.{rules}
use Rattle.supply.proofs.named.BottomSupply.phases.Goals as goal

pub returns-in-Timetable : goal.returns-in-Timetable
returns-in-Timetable c = search rules
