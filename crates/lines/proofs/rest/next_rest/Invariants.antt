use Rattle.lines.proofs.rest.next_rest.Given as goal
use Rattle.lines.specs.Demand.{no_row}
use Rattle.lines.specs.Left.{rows_left}
use Rattle.lines.specs.Rest.{resting}
use Rattle.std.proofs.Common.{◌≡◌, ℕ, ◌<◌, length, true, get_or}

abbrev pub invariant-loop-line : goal.invariant-loop-line
invariant-loop-line l = (i : ℕ) → i < length l.yielded → resting l.t (get_or (rows_left l.lines) i no_row) ≡ true
