-- Schedules of timed jobs over given slots, and when they meet every deadline. Slot s lies between instant s and the next one. Assumes nothing.
use Rattle.std.specs.Prelude.{◌≡◌, ℕ, zero, suc, ◌+◌, ◌<◌, ◌≤◌, cond, List, length, ◌==◌}
use Rattle.edf.specs.Jobs.{Job, job}

-- A slot is idle, or serves the job at a place.
pub data Turn : Type 0 where
  idle : Turn
  serves : ℕ → Turn

-- A schedule says for every slot whether it is idle, or which place it serves.
abbrev pub Schedule : Type 0
Schedule = ℕ → Turn

-- Where g counts the given slots, slot s is given when it is counted.
abbrev pub Given : (ℕ → ℕ) → ℕ → Type 0
Given g s = g (suc s) ≡ suc (g s)

-- A turn is worth one slot to the place that it serves, and nothing to any other.
abbrev pub worth : Turn → ℕ → ℕ
worth idle k = 0
worth (serves j) k = cond (j == k) 1 0

-- The service of place k before instant s is how many of the slots below s went to it.
unfoldable pub service : Schedule → ℕ → ℕ → ℕ
service σ k zero = 0
service σ k (suc s) = service σ k s + worth (σ s) k

-- A schedule meets every deadline of a list when it serves its jobs in given slots alone, none before the release or once it is due, and each
-- for as many slots as it costs.
pub record Meets (g : ℕ → ℕ) (jobs : List Job) (σ : Schedule) : Type 0 where
  -- a slot that serves a job serves one of the list,
  pub there : (s k : ℕ) → σ s ≡ serves k → k < length jobs
  -- is given,
  pub given : (s k : ℕ) → σ s ≡ serves k → Given g s
  -- does not come before the job's release,
  pub released : (s k : ℕ) → σ s ≡ serves k → (job jobs k).release ≤ s
  -- and comes before its deadline;
  pub in_time : (s k : ℕ) → σ s ≡ serves k → s < (job jobs k).deadline
  -- each job has had exactly its cost at its deadline, and so ever after
  pub exact : (k s : ℕ) → k < length jobs → (job jobs k).deadline ≤ s → service σ k s ≡ (job jobs k).cost
