use Rattle.std.proofs.Common.{◌-◌, ◌≤◌}
use Rattle.lines.proofs.Multiples.{Walked}
use Rattle.lines.proofs.rest.least_common.Given as goal

abbrev pub invariant-loop-m : goal.invariant-loop-m
invariant-loop-m l = Walked l.step l.other l.m × (l.m ≤ 30000)

abbrev pub decreases-loop-m : goal.decreases-loop-m
decreases-loop-m l = 30000 - l.m
