-- Lines without one of them: they are among the lines.
use Rattle.std.proofs.Common.{ℕ, ◌+◌, ◌<◌, ◌≤◌, List, length, sym, subst, ⊎_elim, arith}
use Rattle.lines.specs.Demand.{Lawful, AllLawful, no_row}
use Rattle.lines.specs.Laws.{Among}
use Rattle.lines.specs.declared.row.Row.{Row}
use Rattle.std.proofs.lemmas.List.Edits.{length-remove, get_or-remove_below, get_or-remove_above}
use Rattle.std.proofs.lemmas.Bool.{cases_lt}
use Rattle.std.specs.List.{remove}

pub removed_among : (rows : List Row) (i : ℕ) → i < length rows → Among (remove rows i) rows
removed_among rows i there k l =
    let shorter = length-remove rows i there in
    ⊎_elim (λ (h : k < i). (k, omega arith, get_or-remove_below rows i no_row k h there)) (λ (h : i ≤ k). (k + 1, omega arith, get_or-remove_above rows i no_row k h there)) (cases_lt k i)

pub lawful_fewer : (few all : List Row) → Among few all → AllLawful all → AllLawful few
lawful_fewer few all among ok i l = let at = among i l in subst (λ row. Lawful row) (sym at.2) (ok at.0 at.1)

pub lawful_removed : (rows : List Row) (i : ℕ) → i < length rows → AllLawful rows → AllLawful (remove rows i)
lawful_removed rows i there = lawful_fewer (remove rows i) rows (removed_among rows i there)
