-- How the last run of a full table ends, from what it promises on the lines that are taken.
use Rattle.bench_calls.specs.Promises.{lines_of, run_refused, Ran}
use Rattle.bench_calls.specs.declared.figures.Figures.{Figures}
use Rattle.refusal.specs.Answers.{Answered}
use Rattle.refusal.specs.declared.Refusal.{Refusal}
use Rattle.run.specs.Checks.{run_checks}
use Rattle.run.specs.Promise.{ByLaw, WellWritten, MetExactly, MissFinal}
use Rattle.run.specs.declared.job.Job.{Job}
use Rattle.run.specs.declared.outcome.Outcome.{Outcome}
use Rattle.std.proofs.Common.{◌≡◌, ℕ, List, length, IfOk, OnErr, None, Some, Ok, Err, Result, ◌∙◌, ◌≢◌, subst, rules}
use Rattle.std.specs.Result.{result_ok}
use Rattle.supply.specs.Whole.{whole}

module _ (figures : List Figures) (jobs : List Job) (before between after : List ℕ) (full : length figures ≡ 8) (kept : run_refused figures jobs (length before) ≢ None → between ≡ before) (long : length between ≡ length before) where
  pub ended_by : (r : Result Outcome Refusal) → Answered r (run_checks (lines_of figures) jobs (length between)) (λ _. Unit {0}) → OnErr r (after ≡ between) → IfOk r (λ o. ByLaw whole 0 (lines_of figures) jobs after o) → IfOk r (λ o. WellWritten whole 0 (lines_of figures) jobs after o) → IfOk r (λ o. MetExactly whole 0 (lines_of figures) jobs after o) → IfOk r (λ o. MissFinal whole 0 (lines_of figures) jobs o) → Ran figures jobs before after (result_ok r)
  ended_by (Ok o) answered same follows written exactly final =
      record {
        full = full;
        no_check_fails = subst (λ room. run_refused figures jobs room ≡ None) long answered.0;
        slots_follow_edf = follows;
        entries_well_written = written;
        met_exactly = exactly;
        miss_is_final = final;
      }
  ended_by (Err e) answered same follows written exactly final =
      let refused : run_refused figures jobs (length before) ≡ Some e = subst (λ room. run_refused figures jobs room ≡ Some e) long answered in
      ((λ _ none. search rules), same ∙ kept (λ none. search rules))
