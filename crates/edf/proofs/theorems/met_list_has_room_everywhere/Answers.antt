use Rattle.edf.proofs.Crowding.{crowd}
use Rattle.edf.proofs.theorems.met_list_has_room_everywhere.Goals as goal

pub returns : goal.returns
returns c = record { every_window_has_room = crowd }
