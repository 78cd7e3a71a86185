-- The jobs of a list as timed jobs: each is due its line's deadline after its release. Assumes nothing.
use Rattle.std.specs.Prelude.{ℕ, zero, suc, ◌+◌, max, List, map, length, slice_index_or}
use Rattle.edf.specs.Jobs.{Job as Timed}
use Rattle.lines.specs.Demand.{no_row}
use Rattle.lines.specs.declared.row.Row.{Row}
use Rattle.run.specs.declared.job.Job.{Job}

-- The job at a place of a list; places count from 0.
abbrev pub at : List Job → ℕ → Job
at jobs k = slice_index_or jobs k (record { line = 0; release = 0; cost = 0 })

-- The line of the job at a place.
abbrev pub line_at : List Job → ℕ → ℕ
line_at jobs k = (at jobs k).line

-- The figures of a line, by its number.
abbrev pub figures : List Row → ℕ → Row
figures rows number = slice_index_or rows number no_row

-- A job as a timed one.
abbrev pub timed : List Row → Job → Timed
timed rows job =
    record { release = job.release; deadline = job.release + (figures rows job.line).deadline; cost = job.cost }

-- All jobs of a list as timed ones, in their places.
abbrev pub timed_list : List Row → List Job → List Timed
timed_list rows jobs = map (timed rows) jobs

-- The largest deadline among the first n jobs, and 0 for none.
unfoldable pub largest : List Row → List Job → ℕ → ℕ
largest rows jobs zero = 0
largest rows jobs (suc n) = max (largest rows jobs n) (timed rows (at jobs n)).deadline

-- The horizon of a list is its largest deadline, and 0 for no jobs.
abbrev pub horizon : List Row → List Job → ℕ
horizon rows jobs = largest rows jobs (length jobs)
