-- The report on a sheet: its text, and when it is handed over. Assumes nothing.
use Rattle.std.specs.Prelude.{◌≡◌, ◌≤◌, ℕ, List, [], ◌∷◌, ◌++◌, length, Some, None, codes, decimal, Option, Result}
use Rattle.analysis.specs.History.{Call, Reached}
use Rattle.analysis.specs.Verdict.{Verdict, ExactVerdict}
use Rattle.lines.specs.Rest.{first_rest}
use Rattle.lines.specs.declared.row.Row.{Row}
use Rattle.refusal.specs.Answers.{Answered, left}
use Rattle.refusal.specs.Numbers.{number_of}
use Rattle.refusal.specs.declared.Refusal.{Refusal}
use Rattle.refusal.specs.Texts.{layer_word}
use Rattle.roster.specs.Lent.{fronted}
use Rattle.roster.specs.Working.{rows_in, watched_in}
use Rattle.roster.specs.declared.roster.Roster.{Roster}
use Rattle.sheet.specs.Drafts.{room_check}
use Rattle.sheet.specs.Reading.{Leaves, TurnedDown}
use Rattle.sheet.specs.declared.sheet_refusal.SheetRefusal.{SheetRefusal}
use Rattle.supply.specs.Named.{named}
use Rattle.supply.specs.declared.named.Named.{Named}

-- A line with a figure: a word, a blank, the number, and byte 10.
abbrev pub figure_line : (word : List ℕ) → ℕ → List ℕ
figure_line word n = word ++ (32 ∷ (decimal n ++ (10 ∷ [])))

-- The line of the verdict.
abbrev pub verdict_line : Option ℕ → List ℕ
verdict_line None = codes "fits" ++ (10 ∷ [])
verdict_line (Some t) = figure_line (codes "overloaded") t

-- The lines before it: how many lines there are, where they rest first, and how many deadlines are watched.
abbrev pub figures : List Row → List ℕ → List ℕ
figures rows watched =
    figure_line (codes "lines") (length rows) ++ (figure_line (codes "rest") (first_rest rows) ++ figure_line (codes "watched") (length watched))

-- The report on an accepted sheet.
abbrev pub figures_text : List Row → List ℕ → Option ℕ → List ℕ
figures_text rows watched verdict = figures rows watched ++ verdict_line verdict

-- The report on a refused sheet: one line.
abbrev pub refusal_text : SheetRefusal → List ℕ
refusal_text e =
    codes "refused " ++ (decimal (number_of e.refusal.reason) ++ (32 ∷ (layer_word e.refusal.layer ++ (codes " record " ++ (decimal e.«record» ++ (codes " byte " ++ (decimal e.byte ++ (10 ∷ []))))))))

-- A text tells the figures of a roster, with its verdict, which is exact after whatever calls.
pub record Tells (roster : Roster Named) (text : List ℕ) : Type 0 where
  pub verdict : Option ℕ
  pub least_overload_or_none : Verdict (named roster.supply) (rows_in roster) (watched_in roster) verdict
  pub exact_after_any_calls : (calls : List Call) → Reached (named roster.supply) calls (rows_in roster) (watched_in roster) → ExactVerdict (named roster.supply) (rows_in roster) verdict
  pub text_is_figures_and_verdict : text ≡ figures_text (rows_in roster) (watched_in roster) verdict

-- The text of a report: the figures of the roster that the sheet leaves, with its verdict, which is exact; or why it is refused.
pub data Reports (bytes : List ℕ) : List ℕ → Type 0 where
  accepted : (roster : Roster Named) (verdict : Option ℕ) → Leaves bytes roster → Verdict (named roster.supply) (rows_in roster) (watched_in roster) verdict → ExactVerdict (named roster.supply) (rows_in roster) verdict → Reports bytes (figures_text (rows_in roster) (watched_in roster) verdict)
  refused : (e : SheetRefusal) → TurnedDown bytes e → Reports bytes (refusal_text e)

-- A report is at most 96 bytes long, and is written over the front of a lent list, if that has room for it.
pub record Reported (bytes before after : List ℕ) (r : Result ℕ Refusal) : Type 0 where
  pub text : List ℕ
  pub tells_the_sheet : Reports bytes text
  pub at_most_96_bytes : length text ≤ 96
  pub refused_where_list_is_too_short : Answered r (room_check (length text) (length before) ∷ []) (λ n. n ≡ length text)
  pub list_holds_text : after ≡ left r (fronted text before) before
