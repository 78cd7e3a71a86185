use Rattle.edf.proofs.Construction.{existence}
use Rattle.edf.proofs.theorems.law_has_a_schedule.Goals as goal

pub returns : goal.returns
returns c = record { some_schedule_keeps_it = existence }
