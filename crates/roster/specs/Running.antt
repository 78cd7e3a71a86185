-- How a run ends where the lines fit. Assumes nothing.
use Rattle.std.specs.Prelude.{◌≡◌, ℕ, List}
use Rattle.edf.specs.Run.{met}
use Rattle.edf.specs.Schedule.{Meets}
use Rattle.lines.specs.declared.row.Row.{Row}
use Rattle.run.specs.Outcomes.{outcome}
use Rattle.run.specs.Slots.{given_in, schedule}
use Rattle.run.specs.Timed.{timed_list}
use Rattle.run.specs.declared.job.Job.{Job}
use Rattle.run.specs.declared.outcome.Outcome.{Outcome}
use Rattle.supply.specs.Meaning.{Meaning}

-- The answer is that all is met, and the schedule read off the slots meets every deadline of the list.
abbrev pub AllMet : Meaning → ℕ → List Row → List Job → List ℕ → Outcome → Type 0
AllMet m phase rows jobs slots o = (outcome o ≡ met) × Meets (given_in m phase) (timed_list rows jobs) (schedule slots)
