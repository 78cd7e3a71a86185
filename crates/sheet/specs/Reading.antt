-- What reading a sheet answers, and the roster that it leaves. Assumes nothing.
use Rattle.std.specs.Prelude.{◌≡◌, ℕ, suc, ◌+◌, ◌<◌, ◌≤◌, List, [], ◌++◌, map, length, drop, Some, None, Ok, Err, Option, Result}
use Rattle.analysis.specs.History.{Reached}
use Rattle.grammar.specs.Reading.{rows_through, watched_through, GoodTo, Accepted, Refused}
use Rattle.grammar.specs.Records.{Record, line, calls_of, closing, sheet}
use Rattle.grammar.specs.Supplies.{supply_of}
use Rattle.grammar.specs.declared.fields.Fields.{Fields}
use Rattle.lines.specs.declared.row.Row.{Row}
use Rattle.refusal.specs.declared.Refusal.{Refusal}
use Rattle.roster.specs.Working.{rows_in, watched_in}
use Rattle.roster.specs.declared.roster.Roster.{Roster}
use Rattle.sheet.specs.declared.sheet_refusal.SheetRefusal.{SheetRefusal}
use Rattle.supply.specs.Named.{named}
use Rattle.supply.specs.Whole.{whole}
use Rattle.supply.specs.declared.named.Named.{Named}

-- A roster is what an accepted sheet leaves.
pub record Leaves (bytes : List ℕ) (roster : Roster Named) : Type 0 where
  -- what the sheet spells
  pub fields : Fields
  pub records : List Record
  pub accepted : Accepted bytes fields records
  -- the supply that it names, and the lines and the watch list after its calls
  pub supply_is_that_named : named roster.supply ≡ supply_of fields
  pub lines_after_its_calls : rows_in roster ≡ rows_through [] (calls_of records)
  pub watched_after_its_calls : watched_in roster ≡ watched_through [] [] (calls_of records)
  -- so its calls are a history of the roster, from an opening
  pub calls_are_its_history : Reached (named roster.supply) (calls_of records) (rows_in roster) (watched_in roster)
  -- and a sheet of lines alone is what writing these lines gives
  pub lines_alone_are_rewritten : (rows : List Row) → records ≡ map line rows → bytes ≡ sheet fields (map line (rows_in roster))

-- A refusal at the record with a number, which begins at a byte; 0 and 0 where it is about no record.
abbrev pub refused_at : Refusal → (number byte : ℕ) → SheetRefusal
refused_at why number byte = record { refusal = why; «record» = number; byte = byte }

-- Why a sheet is refused.
abbrev pub TurnedDown : List ℕ → SheetRefusal → Type 0
TurnedDown bytes e = Refused bytes e.refusal e.«record» e.byte

-- A sheet gives a roster, or it is refused.
abbrev pub Reads : List ℕ → Result (Roster Named) SheetRefusal → Type 0
Reads bytes (Ok roster) = Leaves bytes roster
Reads bytes (Err e) = TurnedDown bytes e

-- A roster without lines, on the whole processor.
pub record Empty (roster : Roster Named) : Type 0 where
  pub on_the_whole_processor : named roster.supply ≡ whole
  pub holds_no_line : rows_in roster ≡ []
  pub watches_nothing : watched_in roster ≡ []

-- A sheet is read into a roster, which a refused one leaves without lines.
abbrev pub ReadsInto : List ℕ → Roster Named → Result (Unit {0}) SheetRefusal → Type 0
ReadsInto bytes roster (Ok done) = Leaves bytes roster
ReadsInto bytes roster (Err e) = TurnedDown bytes e × Empty roster

-- How far a reader is: it stands at a byte behind some records, and the roster is what they left.
pub record Going (roster : Roster Named) (bytes : List ℕ) (at before : ℕ) : Type 0 where
  pub fields : Fields
  pub records : List Record
  pub good : GoodTo bytes fields records (drop at bytes)
  pub counted : before ≡ suc (length records)
  pub within : at ≤ length bytes
  pub few : before ≤ at
  pub supply : named roster.supply ≡ supply_of fields
  pub lines : rows_in roster ≡ rows_through [] (calls_of records)
  pub watched : watched_in roster ≡ watched_through [] [] (calls_of records)

-- The reader takes the next record and goes on behind it, or that is the last and counts those before it, or the sheet is refused.
abbrev pub Next : (old new : Roster Named) (bytes : List ℕ) (at before : ℕ) → Result (Option ℕ) SheetRefusal → Type 0
Next old new bytes at before (Ok (Some size)) = (0 < size) × Going new bytes (at + size) (before + 1)
Next old new bytes at before (Ok None) = (new ≡ old) × ((more : List ℕ) × (drop at bytes ≡ closing before ++ more))
Next old new bytes at before (Err e) = TurnedDown bytes e
