-- The checks of a run, in their order. Assumes nothing.
use Rattle.std.specs.Prelude.{ℕ, zero, suc, ◌+◌, Bool, false, ◌&&◌, ◌||◌, List, [], ◌∷◌, ◌++◌, length, ◌==◌, nat_le, nat_lt}
use Rattle.lines.specs.Calls.{outside}
use Rattle.lines.specs.declared.row.Row.{Row}
use Rattle.refusal.specs.Answers.{Check}
use Rattle.refusal.specs.declared.layer.Layer.TheVariants.{Run}
use Rattle.refusal.specs.declared.reason.Reason.{Reason}
use Rattle.refusal.specs.declared.reason.Reason.TheVariants.{ListTooShort, JobOutOfRange, JobTooSoon, TooLarge}
use Rattle.run.specs.Timed.{at, figures, timed, horizon}
use Rattle.run.specs.declared.job.Job.{Job}

-- A check of the run's own, at a place.
abbrev pub run_check : Bool → Reason → ℕ → Check
run_check fails why place = record { fails = fails; refusal = record { reason = why; layer = Run; place = place } }

-- A job is out of range when its line is absent, or its cost is not from 1 to the line's cost.
abbrev pub out_of_range : List Row → Job → Bool
out_of_range rows job = nat_le (length rows) job.line || outside 1 (figures rows job.line).cost job.cost

-- The release of the job in front of a place, and 0 at the first place.
abbrev pub in_front : List Job → ℕ → ℕ
in_front jobs zero = 0
in_front jobs (suc k) = (at jobs k).release

-- An instant is near a line when no period has passed since the release of one of the line's jobs among the first n.
unfoldable pub near : List Row → List Job → (number n instant : ℕ) → Bool
near rows jobs number zero instant = false
near rows jobs number (suc n) instant =
    near rows jobs number n instant || ((at jobs n).line == number && nat_lt instant ((at jobs n).release + (figures rows number).period))

-- The job at place k comes too soon when it is released before the job in front of it, or near the jobs of its line before it. (In a list in order, the last of these is the nearest.)
abbrev pub too_soon : List Row → List Job → ℕ → Bool
too_soon rows jobs k =
    nat_lt (at jobs k).release (in_front jobs k) || near rows jobs (at jobs k).line k (at jobs k).release

-- The checks of a job at a place, behind others for which it may come too soon.
abbrev pub checks_of : List Row → Job → ℕ → Bool → List Check
checks_of rows job place soon =
    run_check (out_of_range rows job) JobOutOfRange place ∷
    run_check soon JobTooSoon place ∷
    run_check (nat_lt 32000 (timed rows job).deadline) TooLarge place ∷ []

-- The checks of the job at place k.
abbrev pub job_checks : List Row → List Job → ℕ → List Check
job_checks rows jobs k = checks_of rows (at jobs k) k (too_soon rows jobs k)

-- The checks of the first n jobs, in turn.
unfoldable pub first_checks : List Row → List Job → ℕ → List Check
first_checks rows jobs zero = []
first_checks rows jobs (suc n) = first_checks rows jobs n ++ job_checks rows jobs n

-- The checks of a list of jobs: how many there are, and then each of them.
abbrev pub list_checks : List Row → List Job → List Check
list_checks rows jobs = run_check (nat_lt 2048 (length jobs)) TooLarge 0 ∷ first_checks rows jobs (length jobs)

-- The checks of a run into a slot list of some length: those of the jobs, and that the slots reach the horizon.
abbrev pub run_checks : List Row → List Job → ℕ → List Check
run_checks rows jobs room =
    list_checks rows jobs ++ (run_check (nat_lt room (horizon rows jobs)) ListTooShort (horizon rows jobs) ∷ [])
