use Rattle.std.proofs.Common.{◌≤◌, length}
use Rattle.lines.specs.Of.{rows_of}
use Rattle.run.proofs.Passing.{Passed}
use Rattle.run.proofs.checked.Checked.new.Given as goal

abbrev pub invariant-loop-place : goal.invariant-loop-place
invariant-loop-place l = Passed (rows_of l.lines) l.jobs l.place l.releases.last l.releases.free l.releases.largest × (length l.jobs ≤ 2048)
