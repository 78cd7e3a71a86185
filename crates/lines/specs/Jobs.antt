-- The jobs of a line one by one, where one is released every period from 0 on, and how many numbers pass a test. Assumes nothing.
use Rattle.std.specs.Prelude.{ℕ, zero, suc, ◌+◌, ◌*◌, Bool, cond}
use Rattle.lines.specs.declared.row.Row.{Row}

-- The instant at which job k is released; jobs count from 0.
abbrev pub release_of : Row → ℕ → ℕ
release_of row k = k * row.period

-- The instant at which it is due.
abbrev pub deadline_of : Row → ℕ → ℕ
deadline_of row k = release_of row k + row.deadline

-- How many of the numbers below n pass a test.
unfoldable pub how_many : (ℕ → Bool) → ℕ → ℕ
how_many test zero = 0
how_many test (suc n) = cond (test n) (suc (how_many test n)) (how_many test n)
