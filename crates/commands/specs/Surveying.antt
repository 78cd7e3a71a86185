-- What is answered to a survey: the text of the lines, or the first that can't be taken. Assumes nothing.
use Rattle.std.specs.Prelude.{◌≡◌, ℕ, Any, ◌<◌, List, ◌++◌, None, Some, codes, decimal, length, slice_index_or, take}
use Rattle.std.specs.Borrow.{Bor}
use Rattle.std.specs.List.{AllZip}
use Rattle.commands.specs.Typed.{SpellsRow}
use Rattle.commands.specs.declared.surveying.Untaken.{Untaken}
use Rattle.lines.specs.Calls.{add_checks}
use Rattle.lines.specs.Demand.{no_row}
use Rattle.lines.specs.Rest.{full_list}
use Rattle.lines.specs.declared.row.Row.{Row}
use Rattle.refusal.specs.Answers.{Check, refusal_of}
use Rattle.refusal.specs.Texts.{refusal_text}
use Rattle.supply.specs.Meaning.{Meaning}
use Rattle.texts.specs.Surveys.{survey_text}

-- "refused 1 roster place 0: .. (line 8 of the survey)"
abbrev pub untaken_text : Untaken → List ℕ
untaken_text untaken = refusal_text untaken.refusal ++ (codes " (line " ++ (decimal untaken.number ++ codes " of the survey)\n"))

-- The checks of taking a line, by its number, behind those in front of it.
abbrev pub checks_at : List Row → ℕ → List Check
checks_at rows number = add_checks (take number rows) (slice_index_or rows number no_row)

-- The lines in front of a number can all be taken.
abbrev pub TakenBefore : List Row → ℕ → Type 0
TakenBefore rows number = (k : ℕ) → k < number → refusal_of (checks_at rows k) ≡ None

-- The first line that can't be taken, and why.
abbrev pub FirstUntaken : List Row → Untaken → Type 0
FirstUntaken rows untaken = (untaken.number < length rows) × TakenBefore rows untaken.number × (refusal_of (checks_at rows untaken.number) ≡ Some untaken.refusal)

-- The survey of lines, where all can be taken, and else the first that can't.
pub record Surveys (m : Meaning) (rows : List Row) (text : List ℕ) : Type 0 where
  pub survey : TakenBefore rows (length rows) → text ≡ survey_text m rows (full_list rows)
  pub refusal : (untaken : Untaken) → FirstUntaken rows untaken → text ≡ untaken_text untaken

-- The words behind `survey` spell lines, or some word spells none.
abbrev pub SpellLines : List (Bor (List ℕ)) → List Row → Type 0
SpellLines words rows = AllZip (λ word row. SpellsRow word.now row) words rows

abbrev pub SomeSpellsNoLine : List (Bor (List ℕ)) → Type 0
SomeSpellsNoLine words = Any (λ word. (row : Row) → ¬ SpellsRow word.now row) words
