-- What is answered to a command that asks a supply, by what the supply means. Assumes nothing.
use Rattle.std.specs.Prelude.{◌≡◌, ℕ, ◌%◌, ◌⊎◌, List, ◌++◌, Ok, Err, Result, codes, decimal, length}
use Rattle.std.specs.Borrow.{Bor}
use Rattle.commands.specs.Words.{IsNumber, number_of, word_at}
use Rattle.commands.specs.declared.trouble.Trouble.{Trouble}
use Rattle.commands.specs.declared.trouble.Trouble.TheVariants.{Memory}
use Rattle.supply.specs.Meaning.{Meaning}

-- A line is told where the words are right, and else the trouble with them; memory may run out in any case.
abbrev pub Told : {A : Type 0} → (bytes : A → List ℕ) → (right : Type 0) → (line : List ℕ) → (wrong : Trouble) → Result A Trouble → Type 0
Told bytes right line wrong (Ok answer) = right × (bytes answer ≡ line)
Told bytes right line wrong (Err trouble) = (trouble ≡ Memory) ⊎ (¬ right × (trouble ≡ wrong))

-- The words behind `count` are a phase and a number of slots.
abbrev pub CountWords : List (Bor (List ℕ)) → Type 0
CountWords words = (length words ≡ 2) × IsNumber 32 (word_at words 0) × IsNumber 16 (word_at words 1)

-- "count 12": how many of the first slots are given in the phase.
abbrev pub count_line : Meaning → List (Bor (List ℕ)) → List ℕ
count_line m words = codes "count" ++ (codes " " ++ (decimal (m.count (number_of (word_at words 0) % m.phases) (number_of (word_at words 1))) ++ codes "\n"))

-- The word behind `least` is a number of slots.
abbrev pub LeastWords : List (Bor (List ℕ)) → Type 0
LeastWords words = (length words ≡ 1) × IsNumber 16 (word_at words 0)

-- "least 8 phase 3": how many given slots so many in a row are sure to hold, and a phase that begins with so few.
abbrev pub least_line : Meaning → List (Bor (List ℕ)) → List ℕ
least_line m words = codes "least " ++ (decimal (m.least (number_of (word_at words 0))) ++ (codes " phase " ++ (decimal (m.worst (number_of (word_at words 0))) ++ codes "\n")))
