use Rattle.std.proofs.Common.{◌+◌}
use Rattle.run.proofs.checked.Checked.admit.Given as goal
use Rattle.run.specs.Holding.{Cursor, Admits}
use Rattle.run.specs.Listed.{jobs_of, line_of}

abbrev pub invariant-loop-ahead : goal.invariant-loop-ahead
invariant-loop-ahead l =
    Cursor (jobs_of l.self) l.at l.at (l.from + l.ahead) × Admits (jobs_of l.self) (line_of l.self) l.at l.from l.initial.table.jobs (l.from + l.ahead) l.table.jobs
