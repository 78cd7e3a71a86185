-- What is proved of counts, rest points and deadlines, as laws. Assumes nothing.
use Rattle.std.specs.Prelude.{◌≡◌, ℕ, ◌+◌, ◌-◌, ◌*◌, ◌%◌, ◌<◌, ◌≤◌, true, List, length, slice_index, slice_index_or}
use Rattle.lines.specs.Demand.{no_row, count, work}
use Rattle.lines.specs.Rest.{every, resting, due, hyperperiod, first_rest, deadlines, full_list}
use Rattle.lines.specs.declared.row.Row.{Row}
use Rattle.std.specs.List.{ContainsAt as Has}

-- What the analysis uses of a line's count and work.
pub record LineLaws (row : Row) : Type 0 where
  -- a later instant counts no fewer jobs
  pub count_monotone : (t u : ℕ) → t ≤ u → count row t ≤ count row u
  -- no job lies across a rest point, so the count splits there
  pub count_splits : (rest t : ℕ) → resting rest row ≡ true → rest ≤ t → count row t ≤ count row rest + count row (t - rest)
  -- a job falls due at t exactly where t is k periods and a deadline
  pub due_is : (t : ℕ) → due t row ≡ true → (k : ℕ) × (t ≡ k * row.period + row.deadline)
  pub due_at : (k : ℕ) → due (k * row.period + row.deadline) row ≡ true
  -- more jobs bring no less work, and no more than their parts
  pub work_none : work row 0 ≡ 0
  pub work_monotone : (m n : ℕ) → m ≤ n → work row m ≤ work row n
  pub work_splits : (m n : ℕ) → work row (m + n) ≤ work row m + work row n
  -- and q times as many jobs bring q times the work
  pub work_scales : (q n : ℕ) → q * work row n ≡ work row (q * n)

-- The hyperperiod is the least common multiple of the periods, and a first rest point is there, no later.
pub record RestLaws (rows : List Row) : Type 0 where
  pub hyperperiod_positive : 1 ≤ hyperperiod rows
  pub hyperperiod_multiple : (i : ℕ) → i < length rows → hyperperiod rows % (slice_index_or rows i no_row).period ≡ 0
  pub hyperperiod_least : (m : ℕ) → 1 ≤ m → ((i : ℕ) → i < length rows → m % (slice_index_or rows i no_row).period ≡ 0) → hyperperiod rows ≤ m
  pub rest_positive : 1 ≤ first_rest rows
  pub rest_rests : every (resting (first_rest rows)) rows ≡ true
  pub rest_first : (t : ℕ) → 1 ≤ t → every (resting t) rows ≡ true → first_rest rows ≤ t
  pub rest_within : first_rest rows ≤ hyperperiod rows

-- The list of deadlines up to n: it rises, and holds the deadlines up to n and nothing else.
pub record DeadlineLaws (rows : List Row) (n : ℕ) : Type 0 where
  pub rising : (i j : ℕ) → i < j → j < length (deadlines rows n) → slice_index (deadlines rows n) i < slice_index (deadlines rows n) j
  pub listed : (t i : ℕ) → i < length rows → due t (slice_index_or rows i no_row) ≡ true → t ≤ n → Has (deadlines rows n) t
  pub only : (t : ℕ) → Has (deadlines rows n) t → (t ≤ n) × ((i : ℕ) × (i < length rows) × (due t (slice_index_or rows i no_row) ≡ true))

-- Each of these lines is one of those.
abbrev pub Among : List Row → List Row → Type 0
Among few all = (i : ℕ) → i < length few → (j : ℕ) × (j < length all) × (slice_index_or few i no_row ≡ slice_index_or all j no_row)

-- Fewer lines rest no later, and their full list is contained in that of all.
pub record FewerLaws (few all : List Row) : Type 0 where
  pub briefer : hyperperiod few ≤ hyperperiod all
  pub rests_no_later : first_rest few ≤ first_rest all
  pub contained : (t : ℕ) → Has (full_list few) t → Has (full_list all) t
  pub no_longer : length (full_list few) ≤ length (full_list all)
