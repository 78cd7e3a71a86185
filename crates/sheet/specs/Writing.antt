-- Writing lines as a sheet: its checks, and that reading brings the lines back. Assumes nothing.
use Rattle.std.specs.Prelude.{◌≡◌, ℕ, List, [], ◌∷◌, ◌++◌, map, length, Result, MatchResult}
use Rattle.grammar.specs.Records.{line, sheet}
use Rattle.grammar.specs.Supplies.{supply_of, field_checks}
use Rattle.grammar.specs.declared.fields.Fields.{Fields}
use Rattle.lines.specs.declared.row.Row.{Row}
use Rattle.refusal.specs.Answers.{Check}
use Rattle.roster.specs.Working.{rows_in}
use Rattle.roster.specs.declared.roster.Roster.{Roster}
use Rattle.sheet.specs.Drafts.{room_check}
use Rattle.sheet.specs.Reading.{Reads}
use Rattle.sheet.specs.declared.sheet_refusal.SheetRefusal.{SheetRefusal}
use Rattle.supply.specs.Named.{named}
use Rattle.supply.specs.declared.named.Named.{Named}

-- The sheet of some lines over the supply that fields name: no certificates.
abbrev pub plain_sheet : Fields → List Row → List ℕ
plain_sheet fields rows = sheet fields (map line rows)

-- The checks: the fields name a supply, and the lent list has room.
abbrev pub write_checks : Fields → List Row → (room : ℕ) → List Check
write_checks fields rows room = field_checks fields ++ (room_check (length (plain_sheet fields rows)) room ∷ [])

-- Whatever reading these bytes answers, it is a roster with these lines over the supply that the fields name.
abbrev pub BringsBack : List ℕ → Fields → List Row → Type 0
BringsBack bytes fields rows =
    (result : Result (Roster Named) SheetRefusal) → Reads bytes result
    → MatchResult result (λ roster. (rows_in roster ≡ rows) × (named roster.supply ≡ supply_of fields)) (λ _. ⊥)
