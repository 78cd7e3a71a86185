-- What a word of a command spells. Assumes nothing.
use Rattle.std.specs.Prelude.{ℕ, ◌^◌, ◌<◌, List, [], slice_index_or}
use Rattle.std.specs.Borrow.{Bor}
use Rattle.std.specs.Str.Parse.{IsNumeral, digits_value, without_leading_plus}

-- The number that a word spells: decimal digits, with or without a plus in front.
abbrev pub number_of : List ℕ → ℕ
number_of word = digits_value 10 (without_leading_plus word)

-- A word spells a number for which a type of so many bits has room.
abbrev pub IsNumber : (bits : ℕ) → List ℕ → Type 0
IsNumber bits word = IsNumeral 10 (without_leading_plus word) × (number_of word < 2 ^ bits)

-- The text of a word by its place, counted from 0.
abbrev pub word_at : List (Bor (List ℕ)) → ℕ → List ℕ
word_at words place = (slice_index_or words place record { ref_ptr = (0, 0); now = [] }).now
