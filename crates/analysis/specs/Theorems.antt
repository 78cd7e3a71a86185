-- The theorems of the analysis, for every supply that keeps its laws. Assumes nothing.
use Rattle.std.specs.Prelude.{◌≡◌, ℕ, ◌-◌, ◌≤◌, List, [], Option}
use Rattle.analysis.specs.History.{Call, Reached, follow}
use Rattle.analysis.specs.Legal.{Legal, witness}
use Rattle.analysis.specs.Verdict.{Verdict, ExactVerdict}
use Rattle.analysis.specs.Watching.{Exact, Cite, Certifies}
use Rattle.edf.specs.Load.{load}
use Rattle.lines.specs.Changes.{without}
use Rattle.lines.specs.Demand.{AllLawful, demand}
use Rattle.lines.specs.Rest.{full_list}
use Rattle.lines.specs.declared.row.Row.{Row}
use Rattle.run.specs.Timed.{timed_list}
use Rattle.run.specs.declared.job.Job.{Job}
use Rattle.supply.specs.Meaning.{Meaning, Lawful}

-- The full list, up to the first rest point, is exact.
abbrev pub FullListExact : Type 0
FullListExact = (m : Meaning) → Lawful m → (rows : List Row) → Exact m rows (full_list rows)

-- A deadline that leaves by a certificate leaves an exact list exact.
abbrev pub CutExact : Type 0
CutExact =
    (m : Meaning) (rows : List Row) (watched : List ℕ) (d divisor : ℕ) (cites : List Cite) → Certifies m rows watched d divisor cites → Exact m rows watched → Exact m rows (without d watched)

-- The window bound: between a and d a legal list brings no more work than demand at the window's length.
abbrev pub WindowBound : Type 0
WindowBound =
    (rows : List Row) (jobs : List Job) → Legal rows jobs → AllLawful rows → (a d : ℕ) → a ≤ d → load (timed_list rows jobs) a d ≤ demand rows (d - a)

-- The witness list is legal, and its work up to t is the demand at t.
abbrev pub WitnessAsks : Type 0
WitnessAsks =
    (rows : List Row) (t : ℕ) → AllLawful rows → Legal rows (witness rows t) × (load (timed_list rows (witness rows t)) 0 t ≡ demand rows t)

-- Every watch list that calls reach is exact, and the lines are lawful.
abbrev pub ReachedExact : Type 0
ReachedExact =
    (m : Meaning) → Lawful m → (calls : List Call) (rows : List Row) (watched : List ℕ) → Reached m calls rows watched → Exact m rows watched × AllLawful rows

-- The lines follow from the calls' arguments alone.
abbrev pub LinesFollow : Type 0
LinesFollow =
    (m : Meaning) (calls : List Call) (rows : List Row) (watched : List ℕ) → Reached m calls rows watched → rows ≡ follow [] calls

-- The main theorem: after any calls, over every supply, the verdict is exact.
abbrev pub VerdictExact : Type 0
VerdictExact =
    (m : Meaning) → Lawful m → (calls : List Call) (rows : List Row) (watched : List ℕ) → Reached m calls rows watched → (verdict : Option ℕ) → Verdict m rows watched verdict → ExactVerdict m rows verdict
