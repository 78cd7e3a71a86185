-- How the draft of a sheet grows by a line, how long it is, and what is whole at its end.
use Rattle.std.proofs.Common.{◌≡◌, ℕ, suc, ◌+◌, ◌*◌, ◌<◌, ◌≤◌, List, [], ◌++◌, map, length, get_or, take, sym, ap, ◌∙◌, arith}
use Rattle.grammar.proofs.Going.{spelled_push}
use Rattle.grammar.proofs.Writing.{lines_length}
use Rattle.grammar.specs.Records.{line, spelled, spelled_all, opening, closing, sheet}
use Rattle.grammar.specs.declared.fields.Fields.{Fields}
use Rattle.lines.specs.Demand.{no_row}
use Rattle.lines.specs.declared.row.Row.{Row}
use Rattle.std.proofs.lemmas.List.{append_assoc, append-nil, length-append, length-map, length-take-le, map_more, take_all}

-- the lines before a number
abbrev pub written_to : List Row → ℕ → List ℕ
written_to rows n = spelled_all (map line (take n rows))

written_length : (rows : List Row) (n : ℕ) → n ≤ length rows → length (written_to rows n) ≡ 8 * n
written_length rows n l = lines_length (take n rows) ∙ ap (λ k. 8 * k) (length-take-le n rows l)

written_more : (rows : List Row) (n : ℕ) → n < length rows → (row : Row) → row ≡ get_or rows n no_row → written_to rows (n + 1) ≡ written_to rows n ++ spelled (line row)
written_more rows n l row e =
    ap spelled_all (map_more line rows n no_row l) ∙ sym (append-nil _) ∙ spelled_push (map line (take n rows)) (line (get_or rows n no_row)) [] ∙ ap (λ t. written_to rows n ++ t) (append-nil _) ∙ ap (λ r. written_to rows n ++ spelled (line r)) (sym e)

-- the first record alone
pub draft_opened : (fields : Fields) (rows : List Row) (none first draft : List ℕ) → none ≡ [] → first ≡ opening fields → draft ≡ none ++ (first ++ []) → draft ≡ opening fields ++ written_to rows 0
unfolding spelled_all
draft_opened fields rows none first draft e f g = g ∙ ap (λ t. t ++ (first ++ [])) e ∙ ap (λ t. t ++ []) f

-- a draft of the first record and the lines before a number
module _ (fields : Fields) (rows : List Row) (draft : List ℕ) (n : ℕ) (draft-is : draft ≡ opening fields ++ written_to rows n) where
  pub draft_length : n ≤ length rows → length draft ≡ 13 + 8 * n
  draft_length l =
      ap length draft-is ∙ length-append (opening fields) (written_to rows n) ∙ omega (arith, written_length rows n l)

  -- a line more
  pub draft_more : n < length rows → (row : Row) → row ≡ get_or rows n no_row → (bytes after : List ℕ) → bytes ≡ spelled (line row) → after ≡ draft ++ (bytes ++ []) → after ≡ opening fields ++ written_to rows (n + 1)
  draft_more l row row-is bytes after bytes-is after_is =
      after_is ∙ ap (λ t. draft ++ t) (append-nil bytes) ∙ ap (λ t. t ++ bytes) draft-is ∙ append_assoc (opening fields) (written_to rows n) bytes ∙ ap (λ t. opening fields ++ (written_to rows n ++ t)) bytes-is ∙ ap (λ t. opening fields ++ t) (sym (written_more rows n l row row-is))

  -- all lines, and the last record
  pub draft_whole : n ≡ length rows → (last after : List ℕ) → last ≡ closing (1 + length rows) → after ≡ draft ++ (last ++ []) → after ≡ sheet fields (map line rows)
  draft_whole all last after last-is after_is =
      let count : 1 + length rows ≡ suc (length (map line rows)) = omega (arith, length-map rows line) in
      after_is ∙ ap (λ t. draft ++ t) (append-nil last) ∙ ap (λ t. t ++ last) draft-is ∙ append_assoc (opening fields) (written_to rows n) last ∙ ap (λ t. opening fields ++ (t ++ last)) (ap (λ rs. spelled_all (map line rs)) (take_all n rows (omega arith))) ∙ ap (λ t. opening fields ++ (spelled_all (map line rows) ++ t)) (last-is ∙ ap closing count)
