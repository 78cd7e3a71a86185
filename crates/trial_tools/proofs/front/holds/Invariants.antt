-- So far each item is as it should be.
use Rattle.std.proofs.Common.{◌≡◌, ℕ, ◌<◌, true, get_or}
use Rattle.trial_tools.proofs.front.holds.Given as goal

abbrev pub invariant-loop-place : goal.invariant-loop-place
invariant-loop-place g l = (k : ℕ) → k < l.place → g.T.PartialEq.eq (get_or l.list k l.before) (get_or l.front k l.before) ≡ true
