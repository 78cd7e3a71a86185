-- The verdict on lines over a supply, and what makes it exact. Assumes nothing.
use Rattle.std.specs.Prelude.{◌≡◌, ℕ, ◌<◌, true, ◌↔◌, List, length, Some, None, Option}
use Rattle.analysis.specs.Legal.{Legal, witness}
use Rattle.analysis.specs.Watching.{Within}
use Rattle.edf.specs.Jobs.{job}
use Rattle.edf.specs.Run.{Outcome, met, Runs}
use Rattle.edf.specs.Schedule.{Schedule, Meets}
use Rattle.lines.specs.Demand.{demand}
use Rattle.lines.specs.Rest.{some, due}
use Rattle.lines.specs.declared.row.Row.{Row}
use Rattle.run.specs.Timed.{timed_list}
use Rattle.run.specs.declared.job.Job.{Job}
use Rattle.std.specs.List.{ContainsAt as Has}
use Rattle.supply.specs.Meaning.{Meaning}

-- At t the lines ask for more than the supply is sure to give.
abbrev pub Exceeds : Meaning → List Row → ℕ → Type 0
Exceeds m rows t = m.least t < demand rows t

-- The lines are overloaded at t: t is the least of all their deadlines, watched or not, at which demand exceeds supply.
pub record Overloaded (m : Meaning) (rows : List Row) (t : ℕ) : Type 0 where
  pub deadline : some (due t) rows ≡ true
  pub exceeds : Exceeds m rows t
  pub least : (d : ℕ) → some (due d) rows ≡ true → d < t → Within m rows d

-- The verdict: absent when demand is within supply at each watched deadline; else the least deadline that is overloaded.
abbrev pub Verdict : Meaning → List Row → List ℕ → Option ℕ → Type 0
Verdict m rows watched None = (d : ℕ) → Has watched d → Within m rows d
Verdict m rows watched (Some t) = ((d : ℕ) × Has watched d × Exceeds m rows d) × Overloaded m rows t

-- Some schedule meets every deadline of a release list in a phase.
abbrev pub MetIn : Meaning → List Row → List Job → ℕ → Type 0
MetIn m rows jobs p = (σ : Schedule) × Meets (m.count p) (timed_list rows jobs) σ

-- The verdict is exact.
pub record ExactVerdict (m : Meaning) (rows : List Row) (verdict : Option ℕ) : Type 0 where
  -- the lines fit exactly when every legal release list has, in each phase, a schedule that meets every deadline;
  pub fits_exactly : (verdict ≡ None) ↔ ((jobs : List Job) → Legal rows jobs → (p : ℕ) → p < m.phases → MetIn m rows jobs p)
  -- where they fit, the run of any legal list, in each phase, ends with all met, and what it writes is such a schedule;
  pub fits_runs : verdict ≡ None → (jobs : List Job) → Legal rows jobs → (p : ℕ) → p < m.phases → (b : ℕ) (σ : Schedule) (outcome : Outcome) → Runs (m.count p) (timed_list rows jobs) b σ outcome → (outcome ≡ met) × Meets (m.count p) (timed_list rows jobs) σ
  -- where they are overloaded at t, the witness list is legal,
  pub witness_legal : (t : ℕ) → verdict ≡ Some t → Legal rows (witness rows t)
  -- no schedule meets it in the phase that is answered with least at t,
  pub witness_unmet : (t : ℕ) → verdict ≡ Some t → MetIn m rows (witness rows t) (m.worst t) → ⊥
  -- and every legal list whose deadlines all come before t has a schedule in each phase
  pub earlier_met : (t : ℕ) → verdict ≡ Some t → (jobs : List Job) → Legal rows jobs → ((k : ℕ) → k < length jobs → (job (timed_list rows jobs) k).deadline < t) → (p : ℕ) → p < m.phases → MetIn m rows jobs p
