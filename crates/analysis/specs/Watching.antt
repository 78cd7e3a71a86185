-- When a list of watched deadlines says enough, and when one may leave it. Assumes nothing.
use Rattle.std.specs.Prelude.{ℕ, ◌+◌, ◌*◌, ◌<◌, ◌≤◌, List, [], ◌∷◌, length, ◌≢◌, slice_index_or}
use Rattle.lines.specs.Changes.{Alike}
use Rattle.lines.specs.Demand.{AllLawful, no_row, count, demand}
use Rattle.lines.specs.declared.row.Row.{Row}
use Rattle.std.specs.List.{ContainsAt as Has, AllByRecursion}
use Rattle.supply.specs.Meaning.{Meaning}

-- At t the lines ask for no more than the supply is sure to give.
abbrev pub Within : Meaning → List Row → ℕ → Type 0
Within m rows t = demand rows t ≤ m.least t

-- A list of deadlines is exact when, for every choice of costs, demand within supply at its deadlines gives it everywhere.
abbrev pub Exact : Meaning → List Row → List ℕ → Type 0
Exact m rows watched =
    (others : List Row) → AllLawful others → Alike rows others → ((d : ℕ) → Has watched d → Within m others d) → (t : ℕ) → Within m others t

-- A cite: a deadline and its weight.
pub record Cite : Type 0 where
  pub deadline : ℕ
  pub weight : ℕ

-- The weighed sum of a figure over the cited deadlines.
unfoldable pub weighed : (ℕ → ℕ) → List Cite → ℕ
weighed figure [] = 0
weighed figure (cite ∷ cites) = cite.weight * figure cite.deadline + weighed figure cites

-- A certificate that d may leave the list: its cites are watched and others than d, they cover the count of each line at d,
-- and they ask of the supply no more than d does, each side times the divisor or the weights.
pub record Certifies (m : Meaning) (rows : List Row) (watched : List ℕ) (d divisor : ℕ) (cites : List Cite) : Type 0 where
  pub divides : 1 ≤ divisor
  pub cited : AllByRecursion (λ cite. Has watched cite.deadline × (cite.deadline ≢ d)) cites
  pub counts : (i : ℕ) → i < length rows → divisor * count (slice_index_or rows i no_row) d ≤ weighed (count (slice_index_or rows i no_row)) cites
  pub supply : weighed m.least cites ≤ divisor * m.least d
