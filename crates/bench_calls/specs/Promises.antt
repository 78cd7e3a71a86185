-- What each call of the benchmark promises, in terms of the lines that are taken of those it is lent. Assumes nothing.
use Rattle.std.specs.Prelude.{◌≡◌, ℕ, zero, suc, List, [], length, map, Some, None, Option}
use Rattle.analysis.specs.History as history
use Rattle.analysis.specs.History.{Call, Reached, follow}
use Rattle.analysis.specs.Verdict.{ExactVerdict}
use Rattle.bench_calls.specs.declared.answers.RunEnd.{RunEnd}
use Rattle.bench_calls.specs.declared.answers.Verdicts.{Verdicts}
use Rattle.bench_calls.specs.declared.figures.Figures.{Figures}
use Rattle.lines.specs.declared.row.Row.{Row}
use Rattle.refusal.specs.Answers.{refusal_of}
use Rattle.refusal.specs.declared.Refusal.{Refusal}
use Rattle.run.specs.Checks.{run_checks}
use Rattle.run.specs.Promise.{ByLaw, WellWritten, MetExactly, MissFinal}
use Rattle.run.specs.declared.job.Job.{Job}
use Rattle.run.specs.declared.outcome.Outcome.{Outcome}
use Rattle.run.specs.declared.outcome.Outcome.TheVariants.{Met, Missed}
use Rattle.supply.specs.Meaning.{Meaning}
use Rattle.supply.specs.Share.{share, LawfulShare}
use Rattle.supply.specs.Whole.{whole}

-- The call that enrols a line.
abbrev pub enrolled : Figures → Call
enrolled f = history.enrol (record { period = f.period; deadline = f.deadline; cost = f.cost })

-- The lines that are taken of some, from an opening.
abbrev pub lines_of : List Figures → List Row
lines_of figures = follow [] (map enrolled figures)

-- A pile of shares over the whole processor.
abbrev pub piled : (given of shares : ℕ) → Meaning
piled given of zero = whole
piled given of (suc n) = share given of (piled given of n)

-- A pile of shares may be made.
abbrev pub Piles : (given of shares : ℕ) → Type 0
Piles given of zero = Unit {0}
Piles given of (suc n) = Piles given of n × LawfulShare (piled given of n) given of

-- There is a verdict exactly where the supply may be made and the lines are a full table, and it is exact.
abbrev pub Judged : (made : Type 0) → Meaning → List Figures → Option (Option ℕ) → Type 0
Judged made m figures None = made → length figures ≡ 8 → ⊥
Judged made m figures (Some verdict) = made × (length figures ≡ 8) × ExactVerdict m (lines_of figures) verdict

-- The first check of a run that fails, if one does, and how it is then refused.
abbrev pub run_refused : List Figures → List Job → (room : ℕ) → Option Refusal
run_refused figures jobs room = refusal_of (run_checks (lines_of figures) jobs room)

-- A run of a full table that no check refuses: the slots are those of earliest deadline first, the end says exactly whether they
-- meet the list, and a miss is final.
pub record RunOn (figures : List Figures) (jobs : List Job) (before after : List ℕ) (o : Outcome) : Type 0 where
  pub full : length figures ≡ 8
  pub no_check_fails : run_refused figures jobs (length before) ≡ None
  pub slots_follow_edf : ByLaw whole 0 (lines_of figures) jobs after o
  pub entries_well_written : WellWritten whole 0 (lines_of figures) jobs after o
  pub met_exactly : MetExactly whole 0 (lines_of figures) jobs after o
  pub miss_is_final : MissFinal whole 0 (lines_of figures) jobs o

-- There is a run exactly of a full table where no check of it fails, and else the slots are as they were.
abbrev pub Ran : List Figures → List Job → (before after : List ℕ) → Option Outcome → Type 0
Ran figures jobs before after None = (length figures ≡ 8 → run_refused figures jobs (length before) ≡ None → ⊥) × (after ≡ before)
Ran figures jobs before after (Some o) = RunOn figures jobs before after o

-- There is a number of watched deadlines exactly for a full table: that of a roster which the enrolments reach.
abbrev pub Watches : List Figures → Option ℕ → Type 0
Watches figures None = length figures ≡ 8 → ⊥
Watches figures (Some number) = (length figures ≡ 8) × ((rows : List Row) × (watched : List ℕ) × Reached whole (map enrolled figures) rows watched × (number ≡ length watched))

-- How a verdict is told: nothing judged is 0, fits is 1, overloaded is 2.
abbrev pub verdicts_as : Option (Option ℕ) → Verdicts
verdicts_as None = record { kind = 0; deadline = 0 }
verdicts_as (Some None) = record { kind = 1; deadline = 0 }
verdicts_as (Some (Some t)) = record { kind = 2; deadline = t }

-- How the end of a run is told: nothing run is 0, met is 1, missed is 2.
abbrev pub end_as : Option Outcome → RunEnd
end_as None = record { kind = 0; job = 0; at = 0 }
end_as (Some Met) = record { kind = 1; job = 0; at = 0 }
end_as (Some (Missed job at)) = record { kind = 2; job = job; at = at }
