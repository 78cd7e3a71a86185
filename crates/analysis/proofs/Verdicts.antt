-- There is one verdict: two that say how the same lines stand are the same.
use Rattle.std.proofs.Common.{◌≡◌, ℕ, ◌<◌, ◌≤◌, List, Some, None, Option, refl, ap, ⊎_elim, arith}
use Rattle.analysis.specs.Verdict.{Overloaded, Verdict}
use Rattle.lines.specs.declared.row.Row.{Row}
use Rattle.std.proofs.lemmas.Bool.{cases_lt}
use Rattle.supply.specs.Meaning.{Meaning}

module _ (m : Meaning) (rows : List Row) where
  -- an overloaded deadline comes no later than another
  no_later : (t u : ℕ) → Overloaded m rows t → Overloaded m rows u → t ≤ u
  no_later t u over other =
      ⊎_elim (λ (l : u < t). absurd (omega (arith, over.least u other.deadline l, other.exceeds))) (λ (g : t ≤ u). g) (cases_lt u t)

  pub verdict_one : (watched : List ℕ) (v w : Option ℕ) → Verdict m rows watched v → Verdict m rows watched w → v ≡ w
  verdict_one watched None None h k = refl
  verdict_one watched None (Some u) h k = let late = k.0 in absurd (omega (arith, h late.0 late.1, late.2))
  verdict_one watched (Some t) None h k = let late = h.0 in absurd (omega (arith, k late.0 late.1, late.2))
  verdict_one watched (Some t) (Some u) h k =
      let same : t ≡ u = omega (arith, no_later t u h.1 k.1, no_later u t k.1 h.1) in
      ap Some same
