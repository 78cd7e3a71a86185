-- Timed jobs: work that is there from an instant on and is due at another. Assumes nothing.
use Rattle.std.specs.Prelude.{ℕ, ◌<◌, ◌≤◌, List, length, slice_index_or}

-- A job may run from its release on, is due at its deadline, and wants its cost in slots.
pub record Job : Type 0 where
  pub release : ℕ
  pub deadline : ℕ
  pub cost : ℕ

-- The job at a place of a list; places count from 0.
abbrev pub job : List Job → ℕ → Job
job jobs k = slice_index_or jobs k (record { release = 0; deadline = 0; cost = 0 })

-- Every job of the list is due by b.
abbrev pub DueBy : List Job → ℕ → Type 0
DueBy jobs b = (k : ℕ) → k < length jobs → (job jobs k).deadline ≤ b
