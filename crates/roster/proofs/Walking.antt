-- A walk over deadlines in rising order finds the least one that is overloaded.
use Rattle.std.proofs.Common.{◌≡◌, ℕ, ◌<◌, ◌≤◌, true, false, List, Some, None, Option, ⊎_elim, arith, MatchOption}
use Rattle.analysis.proofs.Watching.{within_to}
use Rattle.analysis.specs.Verdict.{Exceeds, Overloaded, Verdict}
use Rattle.analysis.specs.Watching.{Within}
use Rattle.lines.proofs.Fewer.{due_positive}
use Rattle.lines.proofs.Listed.{deadlines_only, deadlines_bounded}
use Rattle.lines.specs.Demand.{AllLawful}
use Rattle.lines.specs.Rest.{some, due}
use Rattle.lines.specs.declared.row.Row.{Row}
use Rattle.std.proofs.lemmas.Bool.{cases_lt}
use Rattle.std.specs.List.{ContainsAt as Has}
use Rattle.supply.specs.Meaning.{Meaning, Lawful}

-- every deadline up to an instant is within supply
abbrev pub Fine : Meaning → List Row → ℕ → Type 0
Fine m rows at = (k : ℕ) → some (due k) rows ≡ true → k ≤ at → Within m rows k

module _ (m : Meaning) (rows : List Row) where
  pub fine_none : AllLawful rows → Fine m rows 0
  fine_none ok k is le = absurd (omega (arith, due_positive rows k ok is))

  -- between two deadlines there is nothing to look at
  fine_before : (at d : ℕ) → Fine m rows at → ((k : ℕ) → at < k → k < d → some (due k) rows ≡ false) → (k : ℕ) → some (due k) rows ≡ true → k < d → Within m rows k
  fine_before at d fine none k is l =
      ⊎_elim (λ (h : at < k). let off = none k h l in absurd (grind arith)) (λ (h : k ≤ at). fine k is h) (cases_lt at k)

  pub fine_more : (at d : ℕ) → Fine m rows at → ((k : ℕ) → at < k → k < d → some (due k) rows ≡ false) → Within m rows d → Fine m rows d
  fine_more at d fine none here k is le =
      ⊎_elim (λ (h : k < d). fine_before at d fine none k is h) (λ (h : d ≤ k). let same : k ≡ d = omega arith in rw same here) (cases_lt k d)

  pub overloaded_at : (at d : ℕ) → Fine m rows at → some (due d) rows ≡ true → ((k : ℕ) → at < k → k < d → some (due k) rows ≡ false) → Exceeds m rows d → Overloaded m rows d
  overloaded_at at d fine is none over = record { deadline = is; exceeds = over; least = fine_before at d fine none }

  pub fine_all : Lawful m → AllLawful rows → (at last : ℕ) → Fine m rows at → ((k : ℕ) → at < k → k ≤ last → some (due k) rows ≡ false) → (t : ℕ) → t ≤ last → Within m rows t
  fine_all law ok at last fine none t le =
      within_to m law rows ok last (λ d h.
      let is = deadlines_only rows last d h in
      let low = deadlines_bounded rows last d h in
      ⊎_elim (λ (l : at < d). let off = none d l low in absurd (grind arith)) (λ (g : d ≤ at). fine d is g) (cases_lt at d)) t le

-- the verdict, from a watched deadline that is overloaded and a walk up to it
pub verdict_by : (m : Meaning) (rows : List Row) (watched : List ℕ) (d : ℕ) → Has watched d → Exceeds m rows d → (r : Option ℕ) → MatchOption r ((t : ℕ) → t ≤ d → Within m rows t) (λ t. Overloaded m rows t) → Verdict m rows watched r
verdict_by m rows watched d has over None h = absurd (omega (arith, h d (omega arith)))
verdict_by m rows watched d has over (Some t) h = ((d, has, over), h)
