use Rattle.edf.proofs.Optimal.{feasibility}
use Rattle.edf.proofs.theorems.met_exactly_with_room.Goals as goal

pub returns : goal.returns
returns c = record { schedule_exactly_where_room = feasibility }
