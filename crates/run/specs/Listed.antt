-- What a list that passed its checks stands for. Assumes nothing.
use Rattle.std.specs.Prelude.{ℕ, List}
use Rattle.edf.specs.Jobs.{Job as Timed}
use Rattle.lines.specs.Of.{rows_of}
use Rattle.run.specs.Timed.{line_at, timed_list}
use Rattle.run.specs.declared.checked.Checked.{Checked}

-- Its jobs as timed ones, in their places.
abbrev pub jobs_of : Checked → List Timed
jobs_of list = timed_list (rows_of list.lines.now) list.jobs.now

-- The line of the job at a place.
abbrev pub line_of : Checked → ℕ → ℕ
line_of list = line_at list.jobs.now
