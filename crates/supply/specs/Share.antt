-- Shares: S in F of the slots that a supply below gives. Assumes nothing.
use Rattle.std.specs.Prelude.{◌≡◌, ℕ, ◌+◌, ◌-◌, ◌*◌, ◌/◌, ◌%◌, ◌<◌, Bool, true, cond, ◌&&◌, nat_le, nat_lt}
use Rattle.supply.specs.Meaning.{Meaning}
use Rattle.supply.specs.Row.{Row, from, repeating}

-- The pattern of S in F as a row: of each F slots the first S are taken.
abbrev pub pattern : ℕ → ℕ → Row
pattern S F = record { turn = F; given = λ i. nat_lt i S }

-- How many of any x slots in a row the pattern is sure to take.
abbrev pub sure : ℕ → ℕ → ℕ → ℕ
sure S F x = x / F * S + (x % F - (F - S))

-- A share over a supply of N phases. Phase q of the share is phase q mod N below, with the pattern begun at its slot q / N. So the j-th of
-- the slots that are given below, from j = 0, is given here where (q / N + j) mod F is less than S.
abbrev pub shared : ℕ → ℕ → Meaning → Meaning
shared S F m = record { phases = m.phases * F; count = λ p n. from (pattern S F) (p / m.phases) (m.count (p % m.phases) n); least = λ n. sure S F (m.least n); worst = λ n. m.worst n + m.phases * (S % F) }

-- The largest number of phases of a share.
abbrev pub most_phases : ℕ
most_phases = 1000000

-- A share over m with F slots in a turn has no more phases than that.
abbrev pub few_phases : Meaning → ℕ → Bool
few_phases m F = nat_le (m.phases * F) most_phases

-- What a share means: one that would have too many phases has the meaning of the supply below.
abbrev pub share : ℕ → ℕ → Meaning → Meaning
share S F m = cond (few_phases m F) (shared S F m) m

-- A pattern of S in F is lawful when 1 ≤ S ≤ F ≤ 64.
abbrev pub lawful_pattern : ℕ → ℕ → Bool
lawful_pattern S F = nat_le 1 S && nat_le S F && nat_le F 64

abbrev pub LawfulPattern : ℕ → ℕ → Type 0
LawfulPattern S F = lawful_pattern S F ≡ true

-- A share of S in F may be made over m when its pattern is lawful and its phases are few.
abbrev pub lawful_share : Meaning → ℕ → ℕ → Bool
lawful_share m S F = lawful_pattern S F && few_phases m F

abbrev pub LawfulShare : Meaning → ℕ → ℕ → Type 0
LawfulShare m S F = lawful_share m S F ≡ true

-- Of the pattern as a row that repeats, `sure` is the minimum over the starts.
abbrev pub SureIsMinimum : ℕ → ℕ → Type 0
SureIsMinimum S F = (x : ℕ) → (repeating (pattern S F)).least x ≡ sure S F x

-- Slot S mod F is a start that attains it.
abbrev pub SureIsAttained : ℕ → ℕ → Type 0
SureIsAttained S F = (S % F < F) × ((x : ℕ) → from (pattern S F) (S % F) x ≡ sure S F x)
