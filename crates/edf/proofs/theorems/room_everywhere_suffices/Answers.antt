use Rattle.edf.proofs.Meeting.{sufficiency, finite_sufficiency}
use Rattle.edf.proofs.theorems.room_everywhere_suffices.Goals as goal

pub returns : goal.returns
returns c = record { endless_law_meets_it = sufficiency; stopped_law_meets_it = finite_sufficiency }
