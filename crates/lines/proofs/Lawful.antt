-- Lawful rows: the first ones, one more, and those behind the first.
use Rattle.std.proofs.Common.{◌≡◌, ℕ, suc, ◌<◌, ◌≤◌, List, [], ◌∷◌, ◌++◌, length, take, ⊎_elim, arith}
use Rattle.lines.specs.Demand.{Lawful, AllLawful, no_row}
use Rattle.lines.specs.declared.row.Row.{Row}
use Rattle.std.proofs.lemmas.List.{length-take, get_or-take, length_push, get_or_push, get_or_append_left}
use Rattle.std.proofs.lemmas.Bool.{cases_lt}

pub lawful_take : (rows : List Row) (i : ℕ) → AllLawful rows → AllLawful (take i rows)
lawful_take rows i ok k l =
    let short = length-take i rows in
    let within : k < i = omega arith in
    rw (get_or-take i rows k no_row within) (ok k (omega arith))

pub lawful_push : (rows : List Row) (row : Row) → AllLawful rows → Lawful row → AllLawful (rows ++ (row ∷ []))
lawful_push rows row ok lawful i l =
    let longer = length_push rows row in
    ⊎_elim (λ (h : i < length rows). rw (get_or_append_left rows (row ∷ []) no_row i h) (ok i h)) (λ (h : length rows ≤ i).
    let last : length rows ≡ i = omega arith in
    rw (get_or_push rows row no_row i last) lawful) (cases_lt i (length rows))

pub lawful_behind : (row : Row) (rows : List Row) → AllLawful (row ∷ rows) → AllLawful rows
lawful_behind row rows ok i l = ok (suc i) (omega arith)
