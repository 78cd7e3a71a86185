-- What a word spells that stands for a line, a cite or a job. Assumes nothing.
use Rattle.std.specs.Prelude.{◌≡◌, ℕ, ◌<◌, ◌==◌, List, length}
use Rattle.std.specs.List.{after_first, before_first, position_or_len}
use Rattle.commands.specs.Words.{IsNumber, number_of}
use Rattle.lines.specs.declared.row.Row.{Row}
use Rattle.roster.specs.declared.cite.Cite.{Cite}
use Rattle.run.specs.declared.job.Job.{Job}

-- The signs between the numbers of a word: / and : and @.
abbrev pub slash : ℕ
slash = 47

abbrev pub colon : ℕ
colon = 58

abbrev pub at_sign : ℕ
at_sign = 64

-- The parts of a word around the first of a sign, where it has one.
abbrev pub Has : (sign : ℕ) → List ℕ → Type 0
Has sign word = position_or_len (λ b. b == sign) word < length word

abbrev pub before : (sign : ℕ) → List ℕ → List ℕ
before sign word = before_first (λ b. b == sign) word

abbrev pub after : (sign : ℕ) → List ℕ → List ℕ
after sign word = after_first (λ b. b == sign) word

-- T/D/C: the period, the deadline and the cost of a line.
abbrev pub SpellsRow : List ℕ → Row → Type 0
SpellsRow word row = Has slash word × Has slash (after slash word)
    × IsNumber 16 (before slash word) × (row.period ≡ number_of (before slash word))
    × IsNumber 16 (before slash (after slash word)) × (row.deadline ≡ number_of (before slash (after slash word)))
    × IsNumber 16 (after slash (after slash word)) × (row.cost ≡ number_of (after slash (after slash word)))

-- C:W: a deadline that is cited, and its weight.
abbrev pub SpellsCite : List ℕ → Cite → Type 0
SpellsCite word cite = Has colon word
    × IsNumber 16 (before colon word) × (cite.deadline ≡ number_of (before colon word))
    × IsNumber 16 (after colon word) × (cite.weight ≡ number_of (after colon word))

-- I@R:C: the line of a job, its release and its cost.
abbrev pub SpellsJob : List ℕ → Job → Type 0
SpellsJob word job = Has at_sign word × Has colon (after at_sign word)
    × IsNumber 8 (before at_sign word) × (job.line ≡ number_of (before at_sign word))
    × IsNumber 16 (before colon (after at_sign word)) × (job.release ≡ number_of (before colon (after at_sign word)))
    × IsNumber 16 (after colon (after at_sign word)) × (job.cost ≡ number_of (after colon (after at_sign word)))
