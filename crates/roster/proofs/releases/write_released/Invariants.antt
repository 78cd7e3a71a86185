use Rattle.std.proofs.Common.{◌≡◌, ◌-◌, ◌≤◌, length}
use Rattle.analysis.specs.Legal.{released_before}
use Rattle.lines.specs.Of.{rows_of}
use Rattle.roster.proofs.releases.write_released.Given as goal
use Rattle.roster.specs.Lent.{fronted}

abbrev pub invariant-loop-release : goal.invariant-loop-release
invariant-loop-release l =
    (l.release ≤ l.t) × (l.place ≡ length (released_before (rows_of l.lines) l.t l.release)) × (l.list ≡ fronted (released_before (rows_of l.lines) l.t l.release) l.initial.list)

abbrev pub decreases-loop-release : goal.decreases-loop-release
decreases-loop-release l = l.t - l.release
