-- How a run ends: the outcome that an answer stands for, when it comes, and its text. Assumes nothing.
use Rattle.std.specs.Prelude.{ℕ, List, ◌++◌, codes, decimal}
use Rattle.edf.specs.Run.{met, missed}
use Rattle.edf.specs.Run as edf
use Rattle.run.specs.declared.outcome.Outcome.{Outcome}
use Rattle.run.specs.declared.outcome.Outcome.TheVariants.{Met, Missed}

-- The outcome of a run by the law that an answer stands for.
abbrev pub outcome : Outcome → edf.Outcome
outcome Met = met
outcome (Missed job at) = missed job at

-- The instant at which a run up to b ends: b, or the first miss.
abbrev pub ending : ℕ → Outcome → ℕ
ending b Met = b
ending b (Missed job at) = at

-- What a person reads of an outcome.
abbrev pub text : Outcome → List ℕ
text Met = codes "all met"
text (Missed job at) = codes "job " ++ (decimal job ++ (codes " misses its deadline at " ++ decimal at))
