use Rattle.std.proofs.Common.{◌≡◌, ℕ, ◌-◌, ◌<◌, ◌≤◌, false}
use Rattle.lines.specs.Left.{rows_left}
use Rattle.lines.specs.Rest.{every, resting, hyperperiod}
use Rattle.lines.proofs.rest.first_rest_of.Given as goal

abbrev pub invariant-loop-later : goal.invariant-loop-later
invariant-loop-later l =
    (1 ≤ l.t) × (l.t ≤ hyperperiod (rows_left l.lines)) × ((k : ℕ) → 1 ≤ k → k < l.t → every (resting k) (rows_left l.lines) ≡ false)

abbrev pub decreases-loop-later : goal.decreases-loop-later
decreases-loop-later l = 30000 - l.t
