use Rattle.edf.proofs.Meeting.{exactness}
use Rattle.edf.proofs.theorems.stopped_law_meets_exactly_on_time.Goals as goal

pub returns : goal.returns
returns c = record { meets_exactly_on_time = exactness }
