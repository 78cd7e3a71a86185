-- What changing a set of lines or a watch list makes of it. Assumes nothing.
use Rattle.std.specs.Prelude.{◌≡◌, ℕ, not, List, [], ◌∷◌, map, length, filter, ◌==◌, nat_le, slice_index_or, slice_set}
use Rattle.lines.specs.Calls.{outside}
use Rattle.lines.specs.Demand.{no_row}
use Rattle.lines.specs.declared.row.Row.{Row}
use Rattle.refusal.specs.Answers.{Check, check, check_at}
use Rattle.refusal.specs.declared.reason.Reason.TheVariants.{CostOutOfRange, NoSuchLine}

-- A line without its cost.
abbrev pub timing : Row → Row
timing row = record { period = row.period; deadline = row.deadline; cost = 0 }

-- Two sets of lines that differ at most in their costs.
abbrev pub Alike : List Row → List Row → Type 0
Alike rows others = map timing rows ≡ map timing others

-- The row with another cost.
abbrev pub recosted : Row → ℕ → Row
recosted row cost = record { period = row.period; deadline = row.deadline; cost = cost }

-- The lines where one of them has another cost.
abbrev pub with_cost : List Row → (number cost : ℕ) → List Row
with_cost rows number cost = slice_set rows number (recosted (slice_index_or rows number no_row) cost)

-- The check that a line is there; its place is the line's number.
abbrev pub there_check : List Row → ℕ → Check
there_check rows number = check_at number (nat_le (length rows) number) NoSuchLine

-- The checks of a new cost for a line.
abbrev pub recost_checks : List Row → (number cost : ℕ) → List Check
recost_checks rows number cost = there_check rows number ∷ check (outside 1 1000 cost) CostOutOfRange ∷ []

-- The list without d.
abbrev pub without : ℕ → List ℕ → List ℕ
without d watched = filter (λ x. not (x == d)) watched
