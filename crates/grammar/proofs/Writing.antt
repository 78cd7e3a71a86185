-- A sheet that is written from lines that a roster can hold is accepted, with just these lines: each passes its checks behind those before it.
use Rattle.std.proofs.Common.{◌≡◌, ℕ, suc, ◌+◌, ◌*◌, ◌<◌, ◌≤◌, List, [], ◌∷◌, ◌++◌, map, length, get_or, None, sym, refl, ap, ◌∙◌, subst, append_assoc, append-nil, arith}
use Rattle.analysis.specs.History.{watched_after, enrol}
use Rattle.grammar.specs.Reading.{rows_through, AllMade}
use Rattle.grammar.specs.Records.{line, calls_of, closing, spelled_all, sheet}
use Rattle.grammar.specs.Supplies.{supply_of}
use Rattle.grammar.specs.Theorems.{Holdable, PlainLines, WrittenAccepted}
use Rattle.grammar.specs.declared.fields.Fields.{Fields}
use Rattle.lines.proofs.Fewer.{fewer_laws}
use Rattle.lines.specs.Calls.{add_checks}
use Rattle.lines.specs.Demand.{Lawful, no_row}
use Rattle.lines.specs.Laws.{Among}
use Rattle.lines.specs.Rest.{hyperperiod, full_list}
use Rattle.lines.specs.declared.row.Row.{Row}
use Rattle.refusal.specs.Answers.{refusal_of}
use Rattle.std.proofs.lemmas.List.{length-append, length_push, get_or_append_left, get_or_at}
use Rattle.supply.specs.Meaning.{Meaning}

-- lines behind others
lines_through : (rows more : List Row) → rows_through rows (calls_of (map line more)) ≡ rows ++ more
unfolding rows_through
lines_through rows [] = sym (append-nil rows)
lines_through rows (row ∷ more) = lines_through (rows ++ (row ∷ [])) more ∙ append_assoc rows (row ∷ []) more

pub plain_lines : PlainLines
plain_lines rows = lines_through [] rows

-- the first lines are among all
pub among_front : (few more : List Row) → Among few (few ++ more)
among_front few more i l = (i, omega (arith, length-append few more), sym (get_or_append_left few more no_row i l))

-- a line passes its checks where it and the lines before it are few, lawful and within the limits
passes : (rows : List Row) (row : Row) → length rows < 8 → Lawful row → hyperperiod (rows ++ (row ∷ [])) ≤ 30000 → length (full_list (rows ++ (row ∷ []))) ≤ 256 → refusal_of (add_checks rows row) ≡ None
passes rows row few lawful brief watchable = grind arith

-- as they are at the front of lines that a roster can hold
front_passes : (rows : List Row) (row : Row) (more : List Row) → Holdable ((rows ++ (row ∷ [])) ++ more) → refusal_of (add_checks rows row) ≡ None
front_passes rows row more h =
    let fewer = fewer_laws (rows ++ (row ∷ [])) ((rows ++ (row ∷ [])) ++ more) (among_front (rows ++ (row ∷ [])) more) h.lawful in
    let long = length-append (rows ++ (row ∷ [])) more in
    let longer = length_push rows row in
    let last : get_or ((rows ++ (row ∷ [])) ++ more) (length rows) no_row ≡ row = ap (λ rs. get_or rs (length rows) no_row) (append_assoc rows (row ∷ []) more) ∙ get_or_at rows row more no_row (length rows) refl in
    passes rows row (omega (arith, h.few)) (subst Lawful last (h.lawful (length rows) (omega arith))) (omega (arith, fewer.briefer, h.brief)) (omega (arith, fewer.no_longer, h.watchable))

-- so each line is enrolled in its turn
lines_made : (m : Meaning) (rows : List Row) (watched : List ℕ) (more : List Row) → Holdable (rows ++ more) → AllMade m rows watched (calls_of (map line more))
unfolding AllMade
lines_made m rows watched [] h = tt
lines_made m rows watched (row ∷ more) h =
    let all : Holdable ((rows ++ (row ∷ [])) ++ more) = subst Holdable (sym (append_assoc rows (row ∷ []) more)) h in
    (front_passes rows row more all, lines_made m (rows ++ (row ∷ [])) (watched_after rows watched (enrol row)) more all)

-- eight bytes for each line
pub lines_length : (rows : List Row) → length (spelled_all (map line rows)) ≡ 8 * length rows
unfolding spelled_all
lines_length [] = refl
lines_length (row ∷ rows) = omega (arith, lines_length rows)

pub sheet_length : (fields : Fields) (rows : List Row) → length (sheet fields (map line rows)) ≡ 17 + 8 * length rows
sheet_length fields rows = omega (arith, length-append (spelled_all (map line rows)) (closing (suc (length (map line rows)))), lines_length rows)

pub written_accepted : WrittenAccepted
written_accepted fields rows named h = record {
  within = omega (arith, sheet_length fields rows, h.few);
  good = record { bytes_are = refl; supply_named = named; calls_made = lines_made (supply_of fields) [] [] rows h };
}
