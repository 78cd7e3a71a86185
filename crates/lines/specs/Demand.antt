-- A line of the gateway, how many of its jobs fall due, and what all lines ask for. Assumes nothing.
use Rattle.std.specs.Prelude.{ℕ, suc, ◌+◌, ◌-◌, ◌*◌, ◌/◌, ◌<◌, ◌≤◌, cond, List, [], ◌∷◌, length, nat_lt, slice_index_or}
use Rattle.lines.specs.declared.row.Row.{Row}

-- What the figures of a line keep: the deadline comes no later than the period, and all are from 1 to 1,000.
abbrev pub Lawful : Row → Type 0
Lawful row =
    (1 ≤ row.deadline) × (row.deadline ≤ row.period) × (row.period ≤ 1000) × (1 ≤ row.cost) × (row.cost ≤ 1000)

-- The row of a place that holds none.
abbrev pub no_row : Row
no_row = record { period = 0; deadline = 0; cost = 0 }

-- Every row is lawful.
abbrev pub AllLawful : List Row → Type 0
AllLawful rows = (i : ℕ) → i < length rows → Lawful (slice_index_or rows i no_row)

-- How many jobs fall due by t, where one is released every `period` from 0 on and is due `deadline` after its release.
abbrev pub counted : (period deadline t : ℕ) → ℕ
counted period deadline t = cond (nat_lt t deadline) 0 (suc ((t - deadline) / period))

-- The count of a line at t.
abbrev pub count : Row → ℕ → ℕ
count row t = counted row.period row.deadline t

-- The most work that n successive jobs of a line bring.
abbrev pub work : Row → ℕ → ℕ
work row n = n * row.cost

-- Demand at t: the work of all jobs that fall due by t.
unfoldable pub demand : List Row → ℕ → ℕ
demand [] t = 0
demand (row ∷ rows) t = work row (count row t) + demand rows t
