use Rattle.std.proofs.Common.{◌<◌, ◌≤◌, length}
use Rattle.analysis.proofs.Releases.{Unreleased}
use Rattle.lines.specs.Of.{rows_of}
use Rattle.roster.proofs.releases.next_release.Given as goal

abbrev pub invariant-loop-line : goal.invariant-loop-line
invariant-loop-line l = (l.after < l.first) × (l.first ≤ l.«end») × Unreleased (rows_of l.lines) (length l.yielded) l.after l.first
