-- The theorems of the sheet's grammar. Assumes nothing.
use Rattle.std.specs.Prelude.{◌≡◌, ℕ, ◌≤◌, List, [], map, length, None}
use Rattle.analysis.specs.History.{Reached}
use Rattle.grammar.specs.Reading.{rows_through, watched_through, Accepted, Outcome, Reading}
use Rattle.grammar.specs.Records.{Record, line, calls_of, sheet}
use Rattle.grammar.specs.Supplies.{supply_of, field_checks}
use Rattle.grammar.specs.declared.fields.Fields.{Fields}
use Rattle.lines.specs.Demand.{AllLawful}
use Rattle.lines.specs.Rest.{hyperperiod, full_list}
use Rattle.lines.specs.declared.row.Row.{Row}
use Rattle.refusal.specs.Answers.{refusal_of}

-- A string of bytes has at most one reading. (That it has one is on the contract of the reader.)
abbrev pub OneReading : Type 0
OneReading = (bytes : List ℕ) (one other : Outcome) → Reading bytes one → Reading bytes other → one ≡ other

-- The records of an accepted sheet are a history of calls, from an opening over the supply that it names.
abbrev pub AcceptedHistory : Type 0
AcceptedHistory =
    (bytes : List ℕ) (fields : Fields) (records : List Record) → Accepted bytes fields records
    → Reached (supply_of fields) (calls_of records) (rows_through [] (calls_of records)) (watched_through [] [] (calls_of records))

-- The lines of a sheet of lines alone are the lines that it spells.
abbrev pub PlainLines : Type 0
PlainLines = (rows : List Row) → rows_through [] (calls_of (map line rows)) ≡ rows

-- Lines that a roster can hold: at most 8, lawful, with a hyperperiod and a full watch list within their limits.
pub record Holdable (rows : List Row) : Type 0 where
  pub few : length rows ≤ 8
  pub lawful : AllLawful rows
  pub brief : hyperperiod rows ≤ 30000
  pub watchable : length (full_list rows) ≤ 256

-- A sheet that is written from fields that name a supply and from lines that a roster can hold is accepted, with just these.
abbrev pub WrittenAccepted : Type 0
WrittenAccepted =
    (fields : Fields) (rows : List Row) → refusal_of (field_checks fields) ≡ None → Holdable rows
    → Accepted (sheet fields (map line rows)) fields (map line rows)
