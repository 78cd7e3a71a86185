use Rattle.edf.proofs.Optimal.{optimality}
use Rattle.edf.proofs.theorems.late_under_the_law_is_late_always.Goals as goal

pub returns : goal.returns
returns c = record { no_schedule_meets_it = optimality }
