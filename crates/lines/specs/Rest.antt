-- The hyperperiod, rest points, deadlines and the full watch list of a set of lines. Assumes nothing.
use Rattle.std.specs.Prelude.{◌≡◌, ℕ, zero, suc, ◌+◌, ◌-◌, ◌*◌, ◌%◌, ◌<◌, ◌≤◌, Bool, true, false, cond, ◌&&◌, ◌||◌, List, [], ◌∷◌, ◌++◌, Some, None, Option, ◌==◌, nat_le}
use Rattle.lines.specs.Demand.{count}
use Rattle.lines.specs.declared.row.Row.{Row}

-- The least number from 1 on that passes a test, where one up to n does; and n + 1 where none does.
unfoldable pub first : (ℕ → Bool) → ℕ → ℕ
first test zero = 1
first test (suc n) = let before = first test n in cond (test before) before (suc (suc n))

-- Every line passes a test, some line does.
unfoldable pub every : (Row → Bool) → List Row → Bool
every test [] = true
every test (row ∷ rows) = test row && every test rows

unfoldable pub some : (Row → Bool) → List Row → Bool
some test [] = false
some test (row ∷ rows) = test row || some test rows

-- The line's period divides m.
abbrev pub divides : ℕ → Row → Bool
divides m row = m % row.period == 0

unfoldable pub product : List Row → ℕ
product [] = 1
product (row ∷ rows) = row.period * product rows

-- The hyperperiod: the least common multiple of the periods. (Their product is a common multiple.)
abbrev pub hyperperiod : List Row → ℕ
hyperperiod rows = first (λ m. every (divides m) rows) (product rows)

-- The line rests at t: none of its jobs, released every period from 0 on, lies across t.
abbrev pub resting : ℕ → Row → Bool
resting t row = t % row.period == 0 || nat_le row.deadline (t % row.period)

-- The first rest point: the least t from 1 on at which every line rests. (The hyperperiod is a rest point.)
abbrev pub first_rest : List Row → ℕ
first_rest rows = first (λ t. every (resting t) rows) (hyperperiod rows)

-- A job of the line falls due at t: t is k × period + deadline for some k.
abbrev pub due : ℕ → Row → Bool
due t row = nat_le row.deadline t && (t - row.deadline) % row.period == 0

-- The first deadline of a line after t: that of the job behind those that fall due by t.
abbrev pub deadline_after : Row → ℕ → ℕ
deadline_after row t = count row t * row.period + row.deadline

-- The deadlines of the lines up to n, rising, each once.
unfoldable pub deadlines : List Row → ℕ → List ℕ
deadlines rows zero = []
deadlines rows (suc n) = cond (some (due (suc n)) rows) (deadlines rows n ++ (suc n ∷ [])) (deadlines rows n)

-- The full watch list: every deadline up to the first rest point.
abbrev pub full_list : List Row → List ℕ
full_list rows = deadlines rows (first_rest rows)

-- The first deadline after an instant and up to a last one, if there is one.
abbrev pub Next : List Row → (after last : ℕ) → Option ℕ → Type 0
Next rows after last None = (k : ℕ) → after < k → k ≤ last → some (due k) rows ≡ false
Next rows after last (Some d) =
    (after < d) × (d ≤ last) × (some (due d) rows ≡ true) × ((k : ℕ) → after < k → k < d → some (due k) rows ≡ false)
