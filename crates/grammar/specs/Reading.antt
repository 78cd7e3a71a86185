-- What a sheet means, on every string of bytes: which are accepted, and where and why the others are refused. Assumes nothing.
use Rattle.std.specs.Prelude.{◌≡◌, ℕ, suc, ◌+◌, ◌-◌, ◌<◌, ◌≤◌, ◌⊎◌, List, [], ◌∷◌, ◌++◌, length, take, Some, None, ◌≢◌}
use Rattle.analysis.specs.History.{Call, rows_after, watched_after}
use Rattle.grammar.specs.Records.{Record, calls_of, call_of, spelled, opening, closing, spelled_all}
use Rattle.grammar.specs.Supplies.{supply_of, field_checks}
use Rattle.grammar.specs.declared.fields.Fields.{Fields}
use Rattle.lines.specs.declared.row.Row.{Row}
use Rattle.refusal.specs.Answers.{refusal_of}
use Rattle.refusal.specs.declared.Refusal.{Refusal}
use Rattle.refusal.specs.declared.layer.Layer.TheVariants.{Sheet}
use Rattle.refusal.specs.declared.reason.Reason.{Reason}
use Rattle.refusal.specs.declared.reason.Reason.TheVariants.{TooLarge, SheetCutShort, MarkMisplaced, ClosingCountWrong, BytesAfterEnd}
use Rattle.roster.specs.Working.{checks}
use Rattle.supply.specs.Meaning.{Meaning}

-- The lines and the watch list after calls that are all made.
unfoldable pub rows_through : List Row → List Call → List Row
rows_through rows [] = rows
rows_through rows (call ∷ calls) = rows_through (rows_after rows call) calls

unfoldable pub watched_through : List Row → List ℕ → List Call → List ℕ
watched_through rows watched [] = watched
watched_through rows watched (call ∷ calls) = watched_through (rows_after rows call) (watched_after rows watched call) calls

-- Each call is made in its turn: none of its checks fails on what those before it left.
unfoldable pub AllMade : Meaning → List Row → List ℕ → List Call → Type 0
AllMade m rows watched [] = Unit {0}
AllMade m rows watched (call ∷ calls) =
    (refusal_of (checks m rows watched call) ≡ None) × AllMade m (rows_after rows call) (watched_after rows watched call) calls

-- A sheet is good up to a rest: its first record names a supply, and each record between asks for a call that is made.
pub record GoodTo (bytes : List ℕ) (fields : Fields) (records : List Record) (rest : List ℕ) : Type 0 where
  pub bytes_are : bytes ≡ opening fields ++ (spelled_all records ++ rest)
  pub supply_named : refusal_of (field_checks fields) ≡ None
  pub calls_made : AllMade (supply_of fields) [] [] (calls_of records)

-- The longest sheet, in bytes.
abbrev pub longest : ℕ
longest = 16384

-- A sheet is accepted when it is good up to its last record, which counts those before it.
pub record Accepted (bytes : List ℕ) (fields : Fields) (records : List Record) : Type 0 where
  pub within : length bytes ≤ longest
  pub good : GoodTo bytes fields records (closing (suc (length records)))

-- The bytes that may stand first, and those that may stand behind.
abbrev pub First : List ℕ → Type 0
First bytes = (fields : Fields) × (bytes ≡ opening fields)

abbrev pub Later : List ℕ → Type 0
Later bytes = ((r : Record) × (bytes ≡ spelled r)) ⊎ ((before : ℕ) × (bytes ≡ closing before))

-- A sheet ends inside a record when its mark is not whole, or when some bytes more would make it a record that may stand here.
abbrev pub CutShort : (List ℕ → Type 0) → List ℕ → Type 0
CutShort May rest = (length rest < 2) ⊎ ((missing : List ℕ) × (0 < length missing) × May (rest ++ missing))

-- A mark is unknown or misplaced when no record that may stand here begins with it.
abbrev pub Misplaced : (List ℕ → Type 0) → List ℕ → Type 0
Misplaced May rest = (2 ≤ length rest) × ((bytes : List ℕ) → May bytes → take 2 bytes ≢ take 2 rest)

-- A refusal of the sheet's own.
abbrev pub by_sheet : Reason → Refusal
by_sheet why = record { reason = why; layer = Sheet; place = 0 }

-- What is wrong with a sheet at its first record.
pub data FaultFirst (bytes : List ℕ) : Refusal → Type 0 where
  cut_short : CutShort First bytes → FaultFirst bytes (by_sheet SheetCutShort)
  misplaced : Misplaced First bytes → FaultFirst bytes (by_sheet MarkMisplaced)
  unlawful : (fields : Fields) (more : List ℕ) (why : Refusal) → bytes ≡ opening fields ++ more → refusal_of (field_checks fields) ≡ Some why → FaultFirst bytes why

-- What is wrong with the rest of a sheet at its next record, behind others that left some lines and a watch list over a supply.
pub data Fault (m : Meaning) (rows : List Row) (watched : List ℕ) (before : ℕ) (rest : List ℕ) : Refusal → Type 0 where
  cut_short : CutShort Later rest → Fault m rows watched before rest (by_sheet SheetCutShort)
  misplaced : Misplaced Later rest → Fault m rows watched before rest (by_sheet MarkMisplaced)
  turned_down : (r : Record) (more : List ℕ) (why : Refusal) → rest ≡ spelled r ++ more → refusal_of (checks m rows watched (call_of r)) ≡ Some why → Fault m rows watched before rest why
  miscounted : (count : ℕ) (more : List ℕ) → rest ≡ closing count ++ more → (count ≢ before) → Fault m rows watched before rest (by_sheet ClosingCountWrong)

-- Why a sheet is refused, with the record, from 1, and the byte at which that record begins, from 0.
pub data Refused (bytes : List ℕ) : Refusal → (number byte : ℕ) → Type 0 where
  too_long : longest < length bytes → Refused bytes (by_sheet TooLarge) 0 0
  at_first : (why : Refusal) → length bytes ≤ longest → FaultFirst bytes why → Refused bytes why 1 0
  at_later : (fields : Fields) (records : List Record) (rest : List ℕ) (why : Refusal) → length bytes ≤ longest → GoodTo bytes fields records rest → Fault (supply_of fields) (rows_through [] (calls_of records)) (watched_through [] [] (calls_of records)) (suc (length records)) rest why → Refused bytes why (2 + length records) (length bytes - length rest)
  behind_last : (fields : Fields) (records : List Record) (more : List ℕ) → length bytes ≤ longest → GoodTo bytes fields records (closing (suc (length records)) ++ more) → 0 < length more → Refused bytes (by_sheet BytesAfterEnd) (3 + length records) (length bytes - length more)

-- How a sheet is read: accepted with the fields and the records that it spells, or refused.
pub data Outcome : Type 0 where
  accepted : Fields → List Record → Outcome
  refused : Refusal → (number byte : ℕ) → Outcome

abbrev pub Reading : List ℕ → Outcome → Type 0
Reading bytes (accepted fields records) = Accepted bytes fields records
Reading bytes (refused why number byte) = Refused bytes why number byte
