-- The full list is exact, and a certificate keeps a list exact.
use Rattle.std.proofs.Common.{◌≡◌, ℕ, zero, suc, ◌+◌, ◌-◌, ◌<◌, ◌≤◌, Bool, true, false, List, refl, ap, subst, ⊎_elim, add-one, arith}
use Rattle.analysis.proofs.Asking.{demand_none, demand_still, demand_splits}
use Rattle.lines.proofs.Costs.{full_list_alike}
use Rattle.analysis.specs.Watching.{Within, Exact}
use Rattle.lines.proofs.Listed.{deadlines_hold}
use Rattle.lines.proofs.Rests.{first_rest_positive, first_rest_rests}
use Rattle.lines.specs.Demand.{AllLawful}
use Rattle.lines.specs.Rest.{every, some, resting, due, first_rest, deadlines, full_list}
use Rattle.lines.specs.declared.row.Row.{Row}
use Rattle.std.proofs.lemmas.Bool.{cases_lt}
use Rattle.std.specs.List.{ContainsAt as Has}
use Rattle.supply.specs.Least.{least_superadditive, least_monotone}
use Rattle.supply.specs.Meaning.{Meaning, Lawful}

module _ (m : Meaning) (law : Lawful m) (rows : List Row) (ok : AllLawful rows) where
  -- one instant more: a deadline is looked up, and between deadlines demand stays while supply grows
  within_next : (b t : ℕ) (here : Bool) → some (due (suc t)) rows ≡ here → ((d : ℕ) → Has (deadlines rows b) d → Within m rows d) → suc t ≤ b → Within m rows t → Within m rows (suc t)
  within_next b t true e at le before = at (suc t) (deadlines_hold rows b (suc t) e (omega arith) le)
  within_next b t false e at le before =
      let still = demand_still rows t ok e in
      let more = least_monotone m law t 1 in
      let same = ap m.least (add-one t) in
      omega arith

  -- demand within supply at the deadlines up to b gives it at every instant up to b
  pub within_to : (b : ℕ) → ((d : ℕ) → Has (deadlines rows b) d → Within m rows d) → (t : ℕ) → t ≤ b → Within m rows t
  within_to b at zero le = omega (arith, demand_none rows ok)
  within_to b at (suc t) le = within_next b t (some (due (suc t)) rows) refl at le (within_to b at t (omega arith))

  -- and past a rest point the rest splits off
  within_far : (r : ℕ) → 1 ≤ r → every (resting r) rows ≡ true → ((t : ℕ) → t ≤ r → Within m rows t) → (n t : ℕ) → t ≤ n → Within m rows t
  within_far r some-r rests near zero t le = near t (omega arith)
  within_far r some-r rests near (suc n) t le =
      let before = within_far r some-r rests near n in
      ⊎_elim (λ (l : r < t).
      let split = demand_splits rows r t ok rests (omega arith) in
      let first = near r (omega arith) in
      let then = before (t - r) (omega arith) in
      let parts = least_superadditive m law r (t - r) in
      let whole : r + (t - r) ≡ t = omega arith in
      let same = ap m.least whole in
      omega arith) (λ (g : t ≤ r). near t g) (cases_lt r t)

  pub full_list_suffices : ((d : ℕ) → Has (full_list rows) d → Within m rows d) → (t : ℕ) → Within m rows t
  full_list_suffices at t =
      within_far (first_rest rows) (first_rest_positive rows) (first_rest_rests rows ok) (within_to (first_rest rows) at) t t (omega arith)

pub full_list_exact : (m : Meaning) → Lawful m → (rows : List Row) → Exact m rows (full_list rows)
full_list_exact m law rows others ok alike at =
    full_list_suffices m law others ok (λ d h. at d (subst (λ ds. Has ds d) (full_list_alike rows others alike) h))
