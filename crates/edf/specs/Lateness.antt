-- When a job is late, and which miss of a deadline comes first. Assumes nothing.
use Rattle.std.specs.Prelude.{ℕ, ◌<◌, ◌≤◌, List, length}
use Rattle.edf.specs.Edf.{Unfinished}
use Rattle.edf.specs.Jobs.{Job, job}
use Rattle.edf.specs.Schedule.{Schedule}

-- A job of the list is late at d when its deadline has come and it is unfinished.
pub record Late (jobs : List Job) (σ : Schedule) (d k : ℕ) : Type 0 where
  pub there : k < length jobs
  pub due : (job jobs k).deadline ≤ d
  pub unfinished : Unfinished jobs σ k d

-- A schedule is on time when no job is ever late.
abbrev pub OnTime : List Job → Schedule → Type 0
OnTime jobs σ = (d k : ℕ) → Late jobs σ d k → ⊥

-- It is on time below e when no job is late at an instant below e.
abbrev pub OnTimeBelow : List Job → Schedule → ℕ → Type 0
OnTimeBelow jobs σ e = (d k : ℕ) → d < e → Late jobs σ d k → ⊥

-- The first miss is that of place k at d when k is late at d, no job is late before d, and no lower place is late at d.
pub record FirstMiss (jobs : List Job) (σ : Schedule) (k d : ℕ) : Type 0 where
  pub late : Late jobs σ d k
  pub earliest : OnTimeBelow jobs σ d
  pub lowest : (j : ℕ) → j < k → Late jobs σ d j → ⊥
