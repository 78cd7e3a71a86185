-- The slot list of a run: what its entries say, and the schedule that is read off it. Assumes nothing.
use Rattle.std.specs.Prelude.{◌≡◌, ℕ, suc, ◌-◌, ◌%◌, ◌<◌, ◌≤◌, cond, ◌||◌, List, Some, None, Option, ◌==◌, slice_index_or}
use Rattle.edf.specs.Schedule.{Turn, idle, serves, Schedule, Given}
use Rattle.supply.specs.Meaning.{Meaning}

-- How many of the first n slots a supply gives in a phase; a phase that is not there stands for its remainder.
abbrev pub given_in : Meaning → ℕ → ℕ → ℕ
given_in m phase n = m.count (phase % m.phases) n

-- The entry of slot s; past the list it is 65,535.
abbrev pub entry : List ℕ → ℕ → ℕ
entry slots s = slice_index_or slots s 65535

-- An entry of 0 or 65,535 gives its slot to none, and any other to the job that it names, 1 + the job's place.
abbrev pub turn : ℕ → Turn
turn e = cond (e == 0 || e == 65535) idle (serves (e - 1))

-- The entry of a given slot: 0 where it serves none, and 1 + the place where it serves a job.
abbrev pub entry_for : Option ℕ → ℕ
entry_for None = 0
entry_for (Some place) = suc place

-- As a schedule, entry s gives slot s to a job or to none, and slots past the list go to none.
abbrev pub schedule : List ℕ → Schedule
schedule slots s = turn (entry slots s)

-- What the entries of a run that ends at an instant hold, where g counts the given slots.
pub record Entries (g : ℕ → ℕ) (slots : List ℕ) (end : ℕ) : Type 0 where
  -- 65,535 where no slot is given,
  pub not_given : (s : ℕ) → s < end → (Given g s → ⊥) → entry slots s ≡ 65535
  -- 0 where a given slot is idle,
  pub idle_given : (s : ℕ) → s < end → Given g s → schedule slots s ≡ idle → entry slots s ≡ 0
  -- 1 + the job's place where a job runs,
  pub running : (s k : ℕ) → s < end → schedule slots s ≡ serves k → entry slots s ≡ suc k
  -- and 65,535 from the end on
  pub behind : (s : ℕ) → end ≤ s → entry slots s ≡ 65535
