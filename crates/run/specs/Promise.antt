-- What a run promises of the slot list and of its answer, for lines with their figures, a list of jobs, and a phase of a supply. Assumes nothing.
use Rattle.std.specs.Prelude.{◌≡◌, ℕ, ◌↔◌, List, ◌≢◌}
use Rattle.edf.specs.Run.{met, Runs}
use Rattle.edf.specs.Schedule.{Schedule, Meets}
use Rattle.lines.specs.declared.row.Row.{Row}
use Rattle.run.specs.Outcomes.{outcome, ending}
use Rattle.run.specs.Slots.{given_in, schedule, Entries}
use Rattle.run.specs.Timed.{timed_list, horizon}
use Rattle.run.specs.declared.job.Job.{Job}
use Rattle.run.specs.declared.outcome.Outcome.{Outcome}
use Rattle.supply.specs.Meaning.{Meaning}

-- The slots follow the law of earliest deadline first up to the horizon, or stop at the first miss, which the answer names.
abbrev pub ByLaw : Meaning → ℕ → List Row → List Job → List ℕ → Outcome → Type 0
ByLaw m phase rows jobs slots o =
    Runs (given_in m phase) (timed_list rows jobs) (horizon rows jobs) (schedule slots) (outcome o)

-- Each entry is 0, 1 + a place or 65,535 as its slot is idle, serves a job or is not given, and 65,535 from the end on.
abbrev pub WellWritten : Meaning → ℕ → List Row → List Job → List ℕ → Outcome → Type 0
WellWritten m phase rows jobs slots o = Entries (given_in m phase) slots (ending (horizon rows jobs) o)

-- The answer is that all is met exactly when the schedule read off the slots meets the list.
abbrev pub MetExactly : Meaning → ℕ → List Row → List Job → List ℕ → Outcome → Type 0
MetExactly m phase rows jobs slots o =
    (outcome o ≡ met) ↔ Meets (given_in m phase) (timed_list rows jobs) (schedule slots)

-- Where the answer is another, no schedule whatever meets the list.
abbrev pub MissFinal : Meaning → ℕ → List Row → List Job → Outcome → Type 0
MissFinal m phase rows jobs o =
    (outcome o ≢ met) → (σ : Schedule) → Meets (given_in m phase) (timed_list rows jobs) σ → ⊥
