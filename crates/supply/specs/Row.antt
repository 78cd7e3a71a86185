-- Rows of slots that repeat for ever, as a supply: what a timetable and the pattern of a share have in common. Assumes nothing.
use Rattle.std.specs.Prelude.{◌≡◌, ℕ, zero, suc, ◌+◌, ◌*◌, ◌%◌, ◌<◌, ◌≤◌, Bool, cond, nat_lt}
use Rattle.supply.specs.Meaning.{Meaning}

-- A row: how many slots a turn has, and which of them are given. It may give none.
pub record Row : Type 0 where
  pub turn : ℕ
  pub given : ℕ → Bool

-- How many of the first n slots are given, if `given s` says whether slot s is.
unfoldable pub upto : (ℕ → Bool) → ℕ → ℕ
upto given zero = zero
upto given (suc n) = cond (given n) (suc (upto given n)) (upto given n)

-- How many of the n slots from slot p on are given, if the row repeats for ever: then slot s is given where slot s mod the turn is.
abbrev pub from : Row → ℕ → ℕ → ℕ
from r p n = upto (λ s. r.given ((p + s) % r.turn)) n

-- The first of the places below k at which f is lowest.
unfoldable pub lowest : (ℕ → ℕ) → ℕ → ℕ
lowest f zero = zero
lowest f (suc k) = let best = lowest f k in cond (nat_lt (f k) (f best)) k best

-- A row as a supply: phase p begins at slot p, and the worst phase is the first in which the fewest of the first n slots are given.
abbrev pub repeating : Row → Meaning
repeating r = record { phases = r.turn; count = from r; least = λ n. from r (lowest (λ p. from r p n) r.turn) n; worst = λ n. lowest (λ p. from r p n) r.turn }

-- Whole turns add the same at every start: k more of them add k times a turn's given slots.
abbrev pub TurnsAddTheSame : Row → Type 0
TurnsAddTheSame r = (p n k : ℕ) → from r p (n + k * r.turn) ≡ k * from r 0 r.turn + from r p n

-- The worst phase is the first of the fewest: none begins with fewer given slots, and each before it begins with more.
abbrev pub WorstIsFirst : Row → Type 0
WorstIsFirst r =
    (n p : ℕ) → (p < r.turn → (repeating r).least n ≤ from r p n) × (p < (repeating r).worst n → (repeating r).least n < from r p n)
