use Rattle.analysis.specs.History.{Reached}
use Rattle.roster.proofs.history.after.Given as goal
use Rattle.roster.specs.Calling.{call_of}
use Rattle.roster.specs.Working.{rows_in, watched_in}
use Rattle.std.proofs.Common.{◌≡◌, map, take}

abbrev pub invariant-loop-call : goal.invariant-loop-call
invariant-loop-call g l =
    (l.roster.supply ≡ l.initial.roster.supply) × Reached (g.S.Supply.meaning l.initial.roster.supply) (map call_of (take l.call-index l.calls)) (rows_in l.roster) (watched_in l.roster)
