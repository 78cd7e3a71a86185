-- The law of earliest deadline first, as a relation: what a slot serves, given what the slots before it served. Assumes nothing.
use Rattle.std.specs.Prelude.{◌≡◌, ℕ, ◌<◌, ◌≤◌, List, length}
use Rattle.edf.specs.Jobs.{Job, job}
use Rattle.edf.specs.Schedule.{Schedule, Given, idle, serves, service}

-- A job is unfinished at instant s when fewer slots below s went to it than its cost.
abbrev pub Unfinished : List Job → Schedule → ℕ → ℕ → Type 0
Unfinished jobs σ k s = service σ k s < (job jobs k).cost

-- A job of the list is pending at s when it is released and unfinished.
pub record Pending (jobs : List Job) (σ : Schedule) (s k : ℕ) : Type 0 where
  pub there : k < length jobs
  pub released : (job jobs k).release ≤ s
  pub unfinished : Unfinished jobs σ k s

-- Place k goes before place j when its deadline is smaller, or the same and k is no higher than j.
pub record Before (jobs : List Job) (k j : ℕ) : Type 0 where
  pub earlier : (job jobs k).deadline ≤ (job jobs j).deadline
  pub lower : (job jobs k).deadline ≡ (job jobs j).deadline → k ≤ j

-- Place k is first at s when it is pending and goes before every place that is pending.
pub record First (jobs : List Job) (σ : Schedule) (s k : ℕ) : Type 0 where
  pub pending : Pending jobs σ s k
  pub before : (j : ℕ) → Pending jobs σ s j → Before jobs k j

-- The law at slot s.
pub record Law (g : ℕ → ℕ) (jobs : List Job) (σ : Schedule) (s : ℕ) : Type 0 where
  -- a slot that is not given serves none;
  pub not_given : (Given g s → ⊥) → σ s ≡ idle
  -- a given slot serves the job that is first,
  pub first : Given g s → (k : ℕ) → σ s ≡ serves k → First jobs σ s k
  -- and none only if no job is pending
  pub none : Given g s → σ s ≡ idle → (k : ℕ) → Pending jobs σ s k → ⊥

-- A schedule follows the law below e when it keeps it at every slot below e.
abbrev pub Follows : (ℕ → ℕ) → List Job → Schedule → ℕ → Type 0
Follows g jobs σ e = (s : ℕ) → s < e → Law g jobs σ s

-- A schedule stops at e when every slot from e on is idle.
abbrev pub Stops : Schedule → ℕ → Type 0
Stops σ e = (s : ℕ) → e ≤ s → σ s ≡ idle
