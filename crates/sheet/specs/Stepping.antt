-- What the reader makes of one record. Assumes nothing.
use Rattle.std.specs.Prelude.{◌≡◌, ℕ, List, ◌++◌, length, Some, None, Ok, Err, Option, Result}
use Rattle.analysis.specs.History.{rows_after, watched_after}
use Rattle.grammar.specs.Reading.{FaultFirst, Fault}
use Rattle.grammar.specs.Records.{Record, call_of, spelled, opening, closing}
use Rattle.grammar.specs.Supplies.{supply_of, field_checks}
use Rattle.grammar.specs.declared.fields.Fields.{Fields}
use Rattle.lines.specs.declared.row.Row.{Row}
use Rattle.refusal.specs.Answers.{refusal_of}
use Rattle.refusal.specs.declared.Refusal.{Refusal}
use Rattle.roster.specs.Working.{checks, rows_in, watched_in}
use Rattle.roster.specs.declared.roster.Roster.{Roster}
use Rattle.supply.specs.Named.{named}
use Rattle.supply.specs.declared.named.Named.{Named}
use Rattle.supply.specs.Meaning.{Meaning}

-- A sheet's first record names a supply, or is at fault.
pub record Opens (bytes : List ℕ) (supply : Named) : Type 0 where
  pub fields : Fields
  pub more : List ℕ
  pub bytes_are : bytes ≡ opening fields ++ more
  pub supply_named : refusal_of (field_checks fields) ≡ None
  pub meaning_is : named supply ≡ supply_of fields

abbrev pub Opening : List ℕ → Result Named Refusal → Type 0
Opening bytes (Ok supply) = Opens bytes supply
Opening bytes (Err why) = FaultFirst bytes why

-- A record stands at the front of the rest, its call is made, and the roster is what that leaves.
pub record Takes (before after : Roster Named) (rest : List ℕ) (size : ℕ) : Type 0 where
  pub r : Record
  pub more : List ℕ
  pub rest_is : rest ≡ spelled r ++ more
  pub size_is : size ≡ length (spelled r)
  pub passes : refusal_of (checks (named before.supply) (rows_in before) (watched_in before) (call_of r)) ≡ None
  pub lines : rows_in after ≡ rows_after (rows_in before) (call_of r)
  pub watched : watched_in after ≡ watched_after (rows_in before) (watched_in before) (call_of r)
  pub supply : after.supply ≡ before.supply

abbrev pub Faulty : Roster Named → ℕ → List ℕ → Refusal → Type 0
Faulty roster count rest why = Fault (named roster.supply) (rows_in roster) (watched_in roster) count rest why

-- A record with a call is taken, or is at fault, however many stand before it.
abbrev pub Taking : Roster Named → Roster Named → List ℕ → Result ℕ Refusal → Type 0
Taking before after rest (Ok size) = Takes before after rest size
Taking before after rest (Err why) = (count : ℕ) → Faulty before count rest why

-- The next record is taken, or it is the last, without a length, and counts those before it, or it is at fault.
abbrev pub Stepping : Roster Named → Roster Named → (count : ℕ) → List ℕ → Result (Option ℕ) Refusal → Type 0
Stepping before after count rest (Ok (Some size)) = Takes before after rest size
Stepping before after count rest (Ok None) = (after ≡ before) × ((more : List ℕ) × (rest ≡ closing count ++ more))
Stepping before after count rest (Err why) = Faulty before count rest why

-- The fields of the last record count those before it, or are at fault whatever these left.
abbrev pub Closing : (count : ℕ) → List ℕ → Result (Unit {0}) Refusal → Type 0
Closing count rest (Ok done) = (more : List ℕ) × (rest ≡ closing count ++ more)
Closing count rest (Err why) = (m : Meaning) (rows : List Row) (watched : List ℕ) → Fault m rows watched count rest why
