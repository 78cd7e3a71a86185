use Rattle.std.proofs.Common.{◌-◌, ◌≤◌}
use Rattle.roster.proofs.Walking.{Fine}
use Rattle.roster.proofs.roster.Roster.first_overload.Given as goal
use Rattle.roster.specs.Working.{rows_in}

abbrev pub invariant-loop-d : goal.invariant-loop-d
invariant-loop-d g l = (l.at ≤ l.last) × Fine (g.S.Supply.meaning l.self.supply) (rows_in l.self) l.at

abbrev pub decreases-loop-d : goal.decreases-loop-d
decreases-loop-d g l = l.last - l.at
