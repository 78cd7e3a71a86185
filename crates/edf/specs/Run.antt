-- A run by the law of earliest deadline first: it goes on to an instant by which every job is due, or stops at the first miss. Assumes nothing.
use Rattle.std.specs.Prelude.{ℕ, List}
use Rattle.edf.specs.Edf.{Follows, Stops}
use Rattle.edf.specs.Jobs.{Job}
use Rattle.edf.specs.Lateness.{OnTime, FirstMiss}
use Rattle.edf.specs.Schedule.{Schedule}

-- A run ends with every deadline met, or with the job at a place that missed its deadline at an instant.
pub data Outcome : Type 0 where
  met : Outcome
  missed : ℕ → ℕ → Outcome

-- A run up to b follows the law to its end and stops there: at b when it is on time, and otherwise at the first miss.
abbrev pub Runs : (ℕ → ℕ) → List Job → ℕ → Schedule → Outcome → Type 0
Runs g jobs b σ met = Follows g jobs σ b × Stops σ b × OnTime jobs σ
Runs g jobs b σ (missed k d) = Follows g jobs σ d × Stops σ d × FirstMiss jobs σ k d
