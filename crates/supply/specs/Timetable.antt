-- Timetables: a row of 1 to 64 slots that is written as a number. Assumes nothing.
use Rattle.std.specs.Prelude.{◌≡◌, ℕ, ◌/◌, ◌%◌, ◌^◌, Bool, true, ◌&&◌, ◌==◌, nat_le, nat_lt}
use Rattle.supply.specs.Meaning.{Meaning}
use Rattle.supply.specs.Row.{Row, repeating}

-- A number as a row: slot s is given when the bit worth 2 ^ s is 1.
abbrev pub bits : ℕ → ℕ → Row
bits length word = record { turn = length; given = λ s. (word / 2 ^ s % 2 == 1) }

-- What a timetable means: its row repeats for ever, and phase p begins at slot p.
abbrev pub timetable : ℕ → ℕ → Meaning
timetable length word = repeating (bits length word)

-- A timetable is lawful when it has 1 to 64 slots, at least one of them given, and no bit from its length upward.
abbrev pub lawful_timetable : ℕ → ℕ → Bool
lawful_timetable length word = nat_le 1 length && nat_le length 64 && nat_lt 0 word && nat_lt word (2 ^ length)

abbrev pub LawfulTimetable : ℕ → ℕ → Type 0
LawfulTimetable length word = lawful_timetable length word ≡ true
