-- The load of a window of time, against the slots that are given in it. Assumes nothing.
use Rattle.std.specs.Prelude.{ℕ, ◌+◌, ◌<◌, ◌≤◌, cond, ◌&&◌, List, sum_by, nat_le}
use Rattle.edf.specs.Jobs.{Job}

-- The load of the window from a to d is the total cost of the jobs that are released at or after a and due at or before d.
unfoldable pub load : List Job → ℕ → ℕ → ℕ
load jobs a d = sum_by (λ j. cond (nat_le a j.release && nat_le j.deadline d) j.cost 0) jobs

-- Where g counts the given slots, the window has room when its load is at most its given slots.
abbrev pub Room : (ℕ → ℕ) → List Job → ℕ → ℕ → Type 0
Room g jobs a d = g a + load jobs a d ≤ g d

-- It is overloaded when its load is more than its given slots.
abbrev pub Overloaded : (ℕ → ℕ) → List Job → ℕ → ℕ → Type 0
Overloaded g jobs a d = g d < g a + load jobs a d

-- There is room up to b when every window that ends by b has room.
abbrev pub RoomTo : (ℕ → ℕ) → List Job → ℕ → Type 0
RoomTo g jobs b = (a d : ℕ) → a ≤ d → d ≤ b → Room g jobs a d
