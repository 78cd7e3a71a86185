use Rattle.std.proofs.Common.{◌≡◌, ◌-◌, ◌≤◌}
use Rattle.lines.specs.Left.{rows_left}
use Rattle.lines.specs.Of.{watched}
use Rattle.lines.specs.Rest.{deadlines}
use Rattle.lines.proofs.deadlines.deadlines_to.Given as goal

abbrev pub invariant-loop-d : goal.invariant-loop-d
invariant-loop-d l = (l.at ≤ l.«end») × (watched l.list ≡ deadlines (rows_left l.lines) l.at)

abbrev pub decreases-loop-d : goal.decreases-loop-d
decreases-loop-d l = l.«end» - l.at
