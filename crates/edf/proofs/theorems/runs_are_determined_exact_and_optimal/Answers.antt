use Rattle.edf.proofs.Run.{run_determined, run_exact, run_optimal}
use Rattle.edf.proofs.theorems.runs_are_determined_exact_and_optimal.Goals as goal

pub returns : goal.returns
returns c = record { one_outcome_and_schedule = run_determined; met_exactly_where_it_meets = run_exact; miss_leaves_no_schedule = run_optimal }
