use Rattle.edf.proofs.BusyWindow.{busy_window}
use Rattle.edf.proofs.theorems.late_job_ends_an_overloaded_window.Goals as goal

pub returns : goal.returns
returns c = record { some_window_is_overloaded = busy_window }
