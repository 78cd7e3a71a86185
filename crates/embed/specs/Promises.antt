-- What each function for C code promises of its answer, in terms of what a sheet leaves. Assumes nothing.
use Rattle.std.specs.Prelude.{◌≡◌, ℕ, ◌<◌, ◌↔◌, List, [], length, IfOk, IfErr, None, Ok, Err, Option, Result, ◌≢◌}
use Rattle.analysis.specs.Legal.{Legal}
use Rattle.analysis.specs.Verdict.{Verdict, ExactVerdict, MetIn}
use Rattle.edf.specs.Run.{met}
use Rattle.embed.specs.Border.{on_sheet, report_as, verdict_as, run_as}
use Rattle.embed.specs.declared.answers.ReportAnswer.{ReportAnswer}
use Rattle.embed.specs.declared.answers.RunAnswer.{RunAnswer}
use Rattle.embed.specs.declared.answers.VerdictAnswer.{VerdictAnswer}
use Rattle.grammar.specs.Reading.{rows_through, Accepted}
use Rattle.grammar.specs.Records.{Record, calls_of}
use Rattle.grammar.specs.Supplies.{supply_of}
use Rattle.grammar.specs.declared.fields.Fields.{Fields}
use Rattle.lines.specs.declared.row.Row.{Row}
use Rattle.refusal.specs.Answers.{Answered}
use Rattle.refusal.specs.declared.Refusal.{Refusal}
use Rattle.roster.specs.Working.{rows_in, watched_in}
use Rattle.roster.specs.declared.roster.Roster.{Roster}
use Rattle.run.specs.Checks.{run_checks}
use Rattle.run.specs.Outcomes.{outcome}
use Rattle.run.specs.Promise.{ByLaw, WellWritten, MetExactly, MissFinal}
use Rattle.run.specs.declared.job.Job.{Job}
use Rattle.run.specs.declared.outcome.Outcome.{Outcome}
use Rattle.sheet.specs.Reading.{Leaves, TurnedDown}
use Rattle.sheet.specs.Reports.{Reported}
use Rattle.sheet.specs.declared.sheet_refusal.SheetRefusal.{SheetRefusal}
use Rattle.supply.specs.Meaning.{Meaning}
use Rattle.supply.specs.Named.{named}
use Rattle.supply.specs.declared.named.Named.{Named}

-- A verdict is that of the roster which the sheet leaves, and it is exact.
pub record VerdictOn (bytes : List ℕ) (verdict : Option ℕ) : Type 0 where
  pub roster : Roster Named
  pub left_by_the_sheet : Leaves bytes roster
  pub least_overload_or_none : Verdict (named roster.supply) (rows_in roster) (watched_in roster) verdict
  pub exact_on_its_lines : ExactVerdict (named roster.supply) (rows_in roster) verdict

-- The verdict on a sheet, or why the sheet is refused.
abbrev pub Judges : List ℕ → Result (Option ℕ) SheetRefusal → Type 0
Judges bytes (Ok verdict) = VerdictOn bytes verdict
Judges bytes (Err e) = TurnedDown bytes e

-- What a run of jobs on lines over a supply answers, and what it leaves of the slot list.
pub record RunsOn (m : Meaning) (rows : List Row) (watched : List ℕ) (phase : ℕ) (jobs : List Job) (before after : List ℕ) (r : Result Outcome Refusal) : Type 0 where
  -- it is refused exactly by the first of its checks that fails, and the slots are then as they were
  pub refused_by_checks : Answered r (run_checks rows jobs (length before)) (λ _. Unit {0})
  pub refusal_leaves_slots : IfErr r (λ _. after ≡ before)
  -- else the slots are those of earliest deadline first, the answer says whether they meet the list, and a miss is final
  pub slots_follow_edf : IfOk r (λ o. ByLaw m phase rows jobs after o)
  pub entries_well_written : IfOk r (λ o. WellWritten m phase rows jobs after o)
  pub met_exactly : IfOk r (λ o. MetExactly m phase rows jobs after o)
  pub miss_is_final : IfOk r (λ o. MissFinal m phase rows jobs o)
  -- and where the lines fit, every legal list ends with all met
  pub fitting_lines_meet_all : Verdict m rows watched None → Legal rows jobs → IfOk r (λ o. outcome o ≡ met)

-- A run on a sheet: it is refused with the sheet, and the slots stay; or it is the run on the roster that the sheet leaves.
pub data RunsOnSheet (bytes : List ℕ) (phase : ℕ) (jobs : List Job) (before after : List ℕ) : Result Outcome SheetRefusal → Type 0 where
  refused : (e : SheetRefusal) → TurnedDown bytes e → after ≡ before → RunsOnSheet bytes phase jobs before after (Err e)
  ran : (roster : Roster Named) (r : Result Outcome Refusal) → Leaves bytes roster → RunsOn (named roster.supply) (rows_in roster) (watched_in roster) phase jobs before after r → RunsOnSheet bytes phase jobs before after (on_sheet r)

-- The report: its answer tells what the report on the sheet answers.
abbrev pub ReportPromise : (bytes before after : List ℕ) → ReportAnswer → Type 0
ReportPromise bytes before after answer = (r : Result ℕ Refusal) × Reported bytes before after r × (answer ≡ report_as r)

-- The verdict: its answer tells the verdict on the sheet, or why the sheet is refused.
abbrev pub VerdictPromise : (bytes : List ℕ) → VerdictAnswer → Type 0
VerdictPromise bytes answer = (r : Result (Option ℕ) SheetRefusal) × Judges bytes r × (answer ≡ verdict_as r)

-- A sheet is accepted, and its lines fit: every legal list of their jobs has, in each phase of the supply that the sheet
-- names, a schedule that meets every deadline.
pub record Admitted (bytes : List ℕ) : Type 0 where
  pub fields : Fields
  pub records : List Record
  pub accepted : Accepted bytes fields records
  pub met_always : (jobs : List Job) → Legal (rows_through [] (calls_of records)) jobs → (p : ℕ) → p < (supply_of fields).phases → MetIn (supply_of fields) (rows_through [] (calls_of records)) jobs p

-- The answer is fits exactly for such a sheet,
abbrev pub FitsExactly : (bytes : List ℕ) → VerdictAnswer → Type 0
FitsExactly bytes answer = (answer.kind ≡ 1) ↔ Admitted bytes

-- and it is refused exactly where the sheet is not accepted.
abbrev pub RefusedExactly : (bytes : List ℕ) → VerdictAnswer → Type 0
RefusedExactly bytes answer = (answer.kind ≡ 0) ↔ ((fields : Fields) (records : List Record) → Accepted bytes fields records → ⊥)

-- The run: its answer tells how the run on the sheet ends, or why it is refused.
abbrev pub RunPromise : (bytes : List ℕ) (phase : ℕ) (jobs : List Job) (before after : List ℕ) → RunAnswer → Type 0
RunPromise bytes phase jobs before after answer = (r : Result Outcome SheetRefusal) × RunsOnSheet bytes phase jobs before after r × (answer ≡ run_as r)

-- On a sheet for which the verdict is fits, no run of a legal list misses a deadline, in whatever phase.
abbrev pub NeverMissed : (bytes : List ℕ) → List Job → RunAnswer → Type 0
NeverMissed bytes jobs answer = (a : Admitted bytes) → Legal (rows_through [] (calls_of a.records)) jobs → answer.kind ≢ 2
