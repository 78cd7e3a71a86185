-- The checks of making a line and of adding one to a set, in their order. Assumes nothing.
use Rattle.std.specs.Prelude.{ℕ, Bool, ◌||◌, List, [], ◌∷◌, ◌++◌, length, nat_le, nat_lt}
use Rattle.lines.specs.Rest.{hyperperiod, full_list}
use Rattle.lines.specs.declared.row.Row.{Row}
use Rattle.refusal.specs.Answers.{Check, check}
use Rattle.refusal.specs.declared.reason.Reason.TheVariants.{LinesFull, PeriodOutOfRange, DeadlineOutOfRange, CostOutOfRange, HyperperiodTooLong, WatchListTooLong}

-- x is not from low to high.
abbrev pub outside : (low high x : ℕ) → Bool
outside low high x = nat_lt x low || nat_lt high x

-- The checks of a line's own figures.
abbrev pub line_checks : Row → List Check
line_checks row =
    check (outside 1 1000 row.period) PeriodOutOfRange ∷
    check (outside 1 row.period row.deadline) DeadlineOutOfRange ∷
    check (outside 1 1000 row.cost) CostOutOfRange ∷ []

-- The checks of lines taken together.
abbrev pub set_checks : List Row → List Check
set_checks rows =
    check (nat_lt 30000 (hyperperiod rows)) HyperperiodTooLong ∷
    check (nat_lt 256 (length (full_list rows))) WatchListTooLong ∷ []

-- The checks of adding a line to others.
abbrev pub add_checks : List Row → Row → List Check
add_checks rows row = check (nat_le 8 (length rows)) LinesFull ∷ (line_checks row ++ set_checks (rows ++ (row ∷ [])))
