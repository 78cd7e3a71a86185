-- Which fields the words of an `open` name, and what is wrong with words that name none. Assumes nothing.
use Rattle.std.specs.Prelude.{◌≡◌, ℕ, ◌-◌, ◌≤◌, List, length, take, codes, Ok, Err, Result, MatchResult}
use Rattle.std.specs.Borrow.{Bor}
use Rattle.commands.specs.Words.{IsNumber, number_of, word_at}
use Rattle.commands.specs.declared.trouble.Trouble.{Trouble}
use Rattle.commands.specs.declared.trouble.Trouble.TheVariants.{Usage, Refused, Sheet, Memory}
use Rattle.commands.specs.declared.usage.Usage.TheVariants.{Open}
use Rattle.grammar.specs.Supplies.{whole_fields}
use Rattle.grammar.specs.declared.fields.Fields.{Fields}
use Rattle.refusal.specs.declared.reason.Reason.TheVariants.{ShareUnlawful, TimetableUnlawful}
use Rattle.supply.specs.Making.{by_supply}
use Rattle.supply.specs.Share.{LawfulShare}
use Rattle.supply.specs.Timetable.{LawfulTimetable}
use Rattle.supply.specs.Whole.{whole}

-- A timetable is named by its length and its number.
abbrev pub NamesTimetable : (length word : List ℕ) → Result Fields Trouble → Type 0
NamesTimetable l w (Ok fields) = IsNumber 8 l × IsNumber 64 w × LawfulTimetable (number_of l) (number_of w) × (fields ≡ record whole_fields { length = number_of l; word = number_of w })
NamesTimetable l w (Err (Usage usage)) = ¬ (IsNumber 8 l × IsNumber 64 w) × (usage ≡ Open)
NamesTimetable l w (Err (Refused refusal)) = IsNumber 8 l × IsNumber 64 w × ¬ LawfulTimetable (number_of l) (number_of w) × (refusal ≡ by_supply TimetableUnlawful)
NamesTimetable l w (Err (Sheet refusal)) = ⊥
NamesTimetable l w (Err Memory) = ⊥

-- A share of S in F is named beside what names the supply below.
abbrev pub NamesShare : Fields → (s f : List ℕ) → Result Fields Trouble → Type 0
NamesShare below s f (Ok fields) = IsNumber 8 s × IsNumber 8 f × LawfulShare whole (number_of s) (number_of f) × (fields ≡ record below { share = number_of s; of = number_of f })
NamesShare below s f (Err (Usage usage)) = ¬ (IsNumber 8 s × IsNumber 8 f) × (usage ≡ Open)
NamesShare below s f (Err (Refused refusal)) = IsNumber 8 s × IsNumber 8 f × ¬ LawfulShare whole (number_of s) (number_of f) × (refusal ≡ by_supply ShareUnlawful)
NamesShare below s f (Err (Sheet refusal)) = ⊥
NamesShare below s f (Err Memory) = ⊥

-- The forms of the words.
abbrev pub IsWhole : List (Bor (List ℕ)) → Type 0
IsWhole words = (length words ≡ 1) × (word_at words 0 ≡ codes "whole")

abbrev pub IsTimetable : List (Bor (List ℕ)) → Type 0
IsTimetable words = (length words ≡ 3) × (word_at words 0 ≡ codes "timetable")

abbrev pub EndsInShare : List (Bor (List ℕ)) → Type 0
EndsInShare words = (3 ≤ length words) × (word_at words (length words - 3) ≡ codes "share")

-- What words without a share name: the whole processor or a timetable, and nothing where they have neither form.
pub record NamesBottom (words : List (Bor (List ℕ))) (named : Result Fields Trouble) : Type 0 where
  pub whole_processor : IsWhole words → named ≡ Ok whole_fields
  pub a_timetable : IsTimetable words → NamesTimetable (word_at words 1) (word_at words 2) named
  pub no_form : ¬ IsWhole words → ¬ IsTimetable words → named ≡ Err (Usage Open)

-- What words that end in a share name: the supply that the words in front name, with the share.
abbrev pub NamesShareOver : List (Bor (List ℕ)) → Result Fields Trouble → Type 0
NamesShareOver words named = (below : Result Fields Trouble) × NamesBottom (take (length words - 3) words) below
    × MatchResult below (λ fields. NamesShare fields (word_at words (length words - 2)) (word_at words (length words - 1)) named) (λ trouble. named ≡ Err trouble)
