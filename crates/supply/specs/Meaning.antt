-- What a supply of slots means, and what every supply keeps. Slot s lies between instant s and the next one. Assumes nothing.
use Rattle.std.specs.Prelude.{◌≡◌, ℕ, suc, ◌+◌, ◌<◌, ◌≤◌}

-- A supply as one value.
pub record Meaning : Type 0 where
  -- the number of phases
  pub phases : ℕ
  -- `count p n`: how many of the first n slots are given in phase p
  pub count : ℕ → ℕ → ℕ
  -- `least n`: how many given slots any n slots in a row are sure to hold
  pub least : ℕ → ℕ
  -- `worst n`: a phase that begins with so few
  pub worst : ℕ → ℕ

-- g counts given slots: it starts at 0, and with one slot more it stays or grows by 1.
pub record Counting (g : ℕ → ℕ) : Type 0 where
  pub starts : g 0 ≡ 0
  pub keeps : (n : ℕ) → g n ≤ g (suc n)
  pub climbs : (n : ℕ) → g (suc n) ≤ suc (g n)

-- There is a phase, and in each phase given slots are counted.
abbrev pub Counts : Meaning → Type 0
Counts m = (0 < m.phases) × ((p : ℕ) → p < m.phases → Counting (m.count p))

-- The law of windows: wherever n slots lie, behind a others of some phase, at least `least n` of them are given.
abbrev pub Windows : Meaning → Type 0
Windows m = (p a n : ℕ) → p < m.phases → m.count p a + m.least n ≤ m.count p (a + n)

-- The law of attainment: the worst phase is one of the phases, and of the n slots with which it begins just `least n` are given.
abbrev pub Attained : Meaning → Type 0
Attained m = (n : ℕ) → (m.worst n < m.phases) × (m.count (m.worst n) n ≡ m.least n)

-- All that the theory asks of a supply.
pub record Lawful (m : Meaning) : Type 0 where
  pub counts : Counts m
  pub windows : Windows m
  pub attained : Attained m

-- What follows from the laws alone: n slots hold at most n given ones, more slots hold no fewer, and windows add up.
abbrev pub Bounded : Meaning → Type 0
Bounded m = (n : ℕ) → m.least n ≤ n

abbrev pub Monotone : Meaning → Type 0
Monotone m = (a n : ℕ) → m.least a ≤ m.least (a + n)

abbrev pub Superadditive : Meaning → Type 0
Superadditive m = (a n : ℕ) → m.least a + m.least n ≤ m.least (a + n)
