-- Crowd: a schedule that meets a list leaves room in every window, since each job of the window has its cost in given slots of the window.
use Rattle.std.proofs.Common.{◌≡◌, ℕ, suc, ◌+◌, ◌<◌, ◌≤◌, Bool, true, false, ◌⊎◌, List, length, sym, ◌∙◌, inl, inr, arith}
use Rattle.edf.proofs.DoubleCount.{marked_service, work, inside, charge, load_places, work_idle, work_marked, work_unmarked}
use Rattle.edf.proofs.Service.{service_unserved, turn_cases}
use Rattle.edf.proofs.Sums.{sum_none, sum_same}
use Rattle.edf.specs.Jobs.{Job, job}
use Rattle.edf.specs.Load.{load}
use Rattle.edf.specs.Schedule.{idle, serves, Schedule, service, Meets}
use Rattle.edf.specs.Theorems.{Crowd}
use Rattle.std.proofs.lemmas.Bool.{cases_Bool}
use Rattle.supply.specs.Meaning.{Counting}
use native.Mathlib.Decide.{le_ind}

module _ (g : ℕ → ℕ) (c : Counting g) (jobs : List Job) (σ : Schedule) (meets : Meets g jobs σ) where
  -- a slot adds no more to the work on marked places than to the given slots,
  work_step : (marked : ℕ → Bool) (t : ℕ) → work σ marked (length jobs) (suc t) + g t ≤ work σ marked (length jobs) t + g (suc t)
  work_step marked t = by_turn (turn_cases (σ t))
    where
      by_mark : (k : ℕ) → σ t ≡ serves k → (marked k ≡ true) ⊎ (marked k ≡ false) → work σ marked (length jobs) (suc t) + g t ≤ work σ marked (length jobs) t + g (suc t)
      by_mark k e (inl m) = omega (arith, meets.given t k e, work_marked σ marked (length jobs) t k e (meets.there t k e) m)
      by_mark k e (inr m) = omega (arith, c.keeps t, work_unmarked σ marked (length jobs) t k e m)

      by_turn : (σ t ≡ idle) ⊎ ((k : ℕ) × (σ t ≡ serves k)) → work σ marked (length jobs) (suc t) + g t ≤ work σ marked (length jobs) t + g (suc t)
      by_turn (inl e) = omega (arith, c.keeps t, work_idle σ marked (length jobs) t e)
      by_turn (inr (k, e)) = by_mark k e (cases_Bool (marked k))

  -- nor do the slots from a to d
  work_within : (marked : ℕ → Bool) (a d : ℕ) → a ≤ d → work σ marked (length jobs) d + g a ≤ work σ marked (length jobs) a + g d
  work_within marked a d le =
      le_ind (λ t. work σ marked (length jobs) t + g a ≤ work σ marked (length jobs) a + g t) (omega arith)
      (λ t from below. omega (arith, work_step marked t))
      d
      le

  -- the jobs of a window have nothing when it begins,
  begun : (a d : ℕ) → work σ (inside jobs a d) (length jobs) a ≡ 0
  begun a d = sum_none (marked_service σ (inside jobs a d) a) (length jobs) (λ k there. each k)
    where
      early : (k : ℕ) → a ≤ (job jobs k).release → service σ k a ≡ 0
      early k before = service_unserved σ k a (λ s l e. omega (arith, meets.released s k e))

      each : (k : ℕ) → marked_service σ (inside jobs a d) a k ≡ 0
      each k = let none = early k in grind arith

  -- and their costs when it ends
  ended : (a d : ℕ) → work σ (inside jobs a d) (length jobs) d ≡ load jobs a d
  ended a d = sum_same (marked_service σ (inside jobs a d) d) (charge jobs a d) (length jobs) each ∙ sym (load_places jobs a d)
    where
      each : (k : ℕ) → k < length jobs → marked_service σ (inside jobs a d) d k ≡ charge jobs a d k
      each k there = let exact = meets.exact k d there in grind arith

pub crowd : Crowd
crowd g c jobs σ meets a d le =
    omega (arith, work_within g c jobs σ meets (inside jobs a d) a d le, begun g c jobs σ meets a d, ended g c jobs σ meets a d)
