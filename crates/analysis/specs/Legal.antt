-- Legal release lists: what callers may do, and the list that asks the most. Assumes nothing.
use Rattle.std.specs.Prelude.{◌≡◌, ℕ, zero, suc, ◌+◌, ◌%◌, ◌<◌, ◌≤◌, cond, ◌&&◌, ◌⊎◌, List, [], ◌∷◌, ◌++◌, length, ◌==◌, nat_le, slice_index_or}
use Rattle.lines.specs.Demand.{no_row}
use Rattle.lines.specs.declared.row.Row.{Row}
use Rattle.run.specs.declared.job.Job.{Job}

-- The row of the line of a job.
abbrev pub row_of : List Row → Job → Row
row_of rows job = slice_index_or rows job.line no_row

-- A job may come: its line is there, and its cost is from 1 to the line's.
pub record Allowed (rows : List Row) (job : Job) : Type 0 where
  pub there : job.line < length rows
  pub some : 1 ≤ job.cost
  pub within : job.cost ≤ (row_of rows job).cost

-- Two jobs of one line are released at least its period apart.
abbrev pub Apart : List Row → Job → Job → Type 0
Apart rows j k = j.line ≡ k.line → (j.release + (row_of rows j).period ≤ k.release) ⊎ (k.release + (row_of rows k).period ≤ j.release)

-- The job of a place that holds none.
abbrev pub no_job : Job
no_job = record { line = 0; release = 0; cost = 0 }

-- A release list is legal when each job may come, and any two of one line are a period apart. It comes in any order.
pub record Legal (rows : List Row) (jobs : List Job) : Type 0 where
  pub allowed : (k : ℕ) → k < length jobs → Allowed rows (slice_index_or jobs k no_job)
  pub apart : (j k : ℕ) → j < k → k < length jobs → Apart rows (slice_index_or jobs j no_job) (slice_index_or jobs k no_job)

-- The jobs that lines, numbered from `number` on, release at r at full cost where each releases one in every period
-- from 0 on, by line; only those that are due by t.
unfoldable pub released_at : (number : ℕ) → List Row → (t r : ℕ) → List Job
released_at number [] t r = []
released_at number (row ∷ rows) t r =
    let later = released_at (suc number) rows t r in
    cond (r % row.period == 0 && nat_le (r + row.deadline) t) (record { line = number; release = r; cost = row.cost } ∷ later) later

-- Those that are released before n, by release and then line.
unfoldable pub released_before : List Row → (t n : ℕ) → List Job
released_before rows t zero = []
released_before rows t (suc n) = released_before rows t n ++ released_at 0 rows t n

-- The witness list at t: for each line its jobs released at 0, one period, two periods and so on whose deadlines are at most t.
abbrev pub witness : List Row → ℕ → List Job
witness rows t = released_before rows t t
