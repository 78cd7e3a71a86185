use Rattle.lines.proofs.rest.hyperperiod_of.Given as goal
use Rattle.lines.specs.Left.{rows_left}
use Rattle.lines.specs.Rest.{hyperperiod}
use Rattle.std.proofs.Common.{◌≡◌, ◌≤◌, length, take}

abbrev pub invariant-loop-line : goal.invariant-loop-line
invariant-loop-line l =
    (length l.yielded ≤ length (rows_left l.lines)) × (l.h ≡ hyperperiod (take (length l.yielded) (rows_left l.lines))) × (l.h ≤ 30000)
