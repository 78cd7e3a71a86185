-- The witness of a verdict: its jobs, its phase, the checks of the call that writes it, and what a list then holds. Assumes nothing.
use Rattle.std.specs.Prelude.{ℕ, not, List, [], ◌∷◌, length, is_some, Some, None, Option, nat_lt}
use Rattle.analysis.specs.Legal.{witness}
use Rattle.lines.specs.declared.row.Row.{Row}
use Rattle.refusal.specs.Answers.{Check, check, check_at}
use Rattle.refusal.specs.declared.reason.Reason.TheVariants.{NothingOverloaded, ListTooShort}
use Rattle.run.specs.declared.job.Job.{Job}
use Rattle.supply.specs.Meaning.{Meaning}

-- The jobs of the witness: the witness list at the overloaded deadline, and none where the lines fit.
abbrev pub witness_jobs : List Row → (verdict : Option ℕ) → List Job
witness_jobs rows None = []
witness_jobs rows (Some t) = witness rows t

-- Its phase: one that begins with the fewest slots up to the overloaded deadline.
abbrev pub witness_phase : Meaning → (verdict : Option ℕ) → ℕ
witness_phase m None = 0
witness_phase m (Some t) = m.worst t

-- The checks of the call, for a list with room for so many jobs: nothing is overloaded, the list is too short.
abbrev pub witness_checks : List Row → (verdict : Option ℕ) → (room : ℕ) → List Check
witness_checks rows verdict room =
    let needed = length (witness_jobs rows verdict) in
    check (not (is_some verdict)) NothingOverloaded ∷
    check_at needed (nat_lt room needed) ListTooShort ∷
    []
