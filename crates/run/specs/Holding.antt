-- What the ready table of a run holds: just the jobs that are released and unfinished. Assumes nothing.
use Rattle.std.specs.Prelude.{◌≡◌, ℕ, ◌+◌, ◌<◌, ◌≤◌, List, Option, length}
use Rattle.edf.specs.Edf.{Unfinished}
use Rattle.edf.specs.Jobs.{Job, job}
use Rattle.edf.specs.Schedule.{Schedule, service}
use Rattle.run.specs.Ready.{Waits}
use Rattle.run.specs.declared.ready.Ready.{Ready}

-- The jobs of a list keep to their lines: there are 8 lines, the list is in order of release, a job wants a slot at least, and it is due after its own release, by that of the next job of its line.
pub record Keeping (jobs : List Job) (line_by_place : ℕ → ℕ) : Type 0 where
  pub lined : (k : ℕ) → k < length jobs → line_by_place k < 8
  pub ordered : (j k : ℕ) → j ≤ k → k < length jobs → (job jobs j).release ≤ (job jobs k).release
  pub wanting : (k : ℕ) → k < length jobs → 0 < (job jobs k).cost
  pub lasting : (k : ℕ) → k < length jobs → (job jobs k).release < (job jobs k).deadline
  pub apart : (j k : ℕ) → j < k → k < length jobs → line_by_place j ≡ line_by_place k → (job jobs j).deadline ≤ (job jobs k).release

-- A job of the table stands for place k at instant s: it has the place's deadline, and what its service so far has left of its cost.
pub record Stands (jobs : List Job) (σ : Schedule) (s k : ℕ) (ready : Ready) : Type 0 where
  pub place : ready.rank.place ≡ k
  pub deadline : ready.rank.deadline ≡ (job jobs k).deadline
  pub left : ready.left + service σ k s ≡ (job jobs k).cost

-- A job of the table is right at line i when it stands for one of the first n places, a job of that line, and wants a slot yet.
pub record Right (jobs : List Job) (line_by_place : ℕ → ℕ) (σ : Schedule) (s n i : ℕ) (ready : Ready) : Type 0 where
  pub there : ready.rank.place < n
  pub own : line_by_place ready.rank.place ≡ i
  pub stands : Stands jobs σ s ready.rank.place ready
  pub wanting : 0 < ready.left

-- A place stands in the table when a job that stands for it waits at its line.
abbrev pub StandsIn : List Job → (ℕ → ℕ) → Schedule → ℕ → List (Option Ready) → ℕ → Type 0
StandsIn jobs line_by_place σ s table k =
    (ready : Ready) × Waits table (line_by_place k) ready × Stands jobs σ s k ready

-- The table holds the first n jobs at instant s: each that is unfinished stands at its line, and what waits is one of them.
pub record Holds (jobs : List Job) (line_by_place : ℕ → ℕ) (σ : Schedule) (s n : ℕ) (table : List (Option Ready)) : Type 0 where
  pub all : (k : ℕ) → k < n → Unfinished jobs σ k s → StandsIn jobs line_by_place σ s table k
  pub only : (i : ℕ) (ready : Ready) → Waits table i ready → Right jobs line_by_place σ s n i ready

-- The first n jobs are released by s, and the others not before e.
pub record Cursor (jobs : List Job) (s e n : ℕ) : Type 0 where
  pub within : n ≤ length jobs
  pub released : (k : ℕ) → k < n → (job jobs k).release ≤ s
  pub ahead : (k : ℕ) → n ≤ k → k < length jobs → e ≤ (job jobs k).release

-- All is settled at instant s: the jobs that are due are finished, and those not released before s have had no slot.
pub record Settled (jobs : List Job) (σ : Schedule) (s : ℕ) : Type 0 where
  pub finished : (k : ℕ) → k < length jobs → (job jobs k).deadline ≤ s → (job jobs k).cost ≤ service σ k s
  pub unserved : (k : ℕ) → k < length jobs → s ≤ (job jobs k).release → service σ k s ≡ 0

-- From one table to another the jobs are admitted from place n to place m: whatever the schedule was, what held the first n jobs at a settled instant s now holds the first m.
abbrev pub Admits : List Job → (ℕ → ℕ) → ℕ → ℕ → List (Option Ready) → ℕ → List (Option Ready) → Type 0
Admits jobs line_by_place s n table m after =
    (σ : Schedule) → Settled jobs σ s → Holds jobs line_by_place σ s n table → Holds jobs line_by_place σ s m after
