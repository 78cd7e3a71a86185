use Rattle.edf.proofs.Agreement.{uniqueness}
use Rattle.edf.proofs.theorems.law_determines_the_schedule.Goals as goal

pub returns : goal.returns
returns c = record { schedules_agree = uniqueness }
