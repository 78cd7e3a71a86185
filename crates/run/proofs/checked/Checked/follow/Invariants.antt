use Rattle.run.proofs.Filling.{Filled}
use Rattle.run.proofs.checked.Checked.follow.Given as goal
use Rattle.run.specs.Slots.{given_in}
use Rattle.run.specs.Listed.{jobs_of, line_of}
use Rattle.std.proofs.Common.{◌≡◌}

abbrev pub invariant-loop-s : goal.invariant-loop-s
invariant-loop-s g l =
    Filled (given_in (g.S.Supply.meaning l.supply) l.phase) (jobs_of l.self) (line_of l.self) l.slots l.s l.next l.table.jobs × (l.before ≡ given_in (g.S.Supply.meaning l.supply) l.phase l.s)
