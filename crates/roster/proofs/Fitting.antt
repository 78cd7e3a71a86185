-- Where the verdict is that lines fit, a run of a legal list that follows the law ends with all met.
use Rattle.std.proofs.Common.{◌≡◌, ℕ, ◌%◌, ◌<◌, List, IfOk, None, Ok, Err, Option, Result, mod-lt}
use Rattle.analysis.specs.Legal.{Legal}
use Rattle.analysis.specs.Verdict.{ExactVerdict}
use Rattle.edf.specs.Run.{met}
use Rattle.lines.specs.declared.row.Row.{Row}
use Rattle.refusal.specs.declared.Refusal.{Refusal}
use Rattle.roster.specs.Running.{AllMet}
use Rattle.run.specs.Outcomes.{outcome}
use Rattle.run.specs.Promise.{ByLaw}
use Rattle.run.specs.Slots.{schedule}
use Rattle.run.specs.Timed.{horizon}
use Rattle.run.specs.declared.job.Job.{Job}
use Rattle.run.specs.declared.outcome.Outcome.{Outcome}
use Rattle.supply.specs.Meaning.{Meaning}

module _ (m : Meaning) (some : 0 < m.phases) (rows : List Row) (verdict : Option ℕ) (exact : ExactVerdict m rows verdict) (fits : verdict ≡ None) (jobs : List Job) (legal : Legal rows jobs) (phase : ℕ) (slots : List ℕ) where
  all_met : (o : Outcome) → ByLaw m phase rows jobs slots o → AllMet m phase rows jobs slots o
  all_met o runs =
      exact.fits_runs fits jobs legal (phase % m.phases) (mod-lt phase some) (horizon rows jobs) (schedule slots) (outcome o) runs

  pub fitting : (r : Result Outcome Refusal) → IfOk r (λ o. ByLaw m phase rows jobs slots o) → IfOk r (λ o. AllMet m phase rows jobs slots o)
  fitting (Ok o) runs = all_met o runs
  fitting (Err e) runs = tt

  pub fitting_met : (r : Result Outcome Refusal) → IfOk r (λ o. ByLaw m phase rows jobs slots o) → IfOk r (λ o. outcome o ≡ met)
  fitting_met (Ok o) runs = (all_met o runs).0
  fitting_met (Err e) runs = tt
