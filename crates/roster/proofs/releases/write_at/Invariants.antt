use Rattle.std.proofs.Common.{◌≡◌, ◌+◌, ◌≤◌, length, take}
use Rattle.analysis.specs.Legal.{released_at}
use Rattle.lines.specs.Left.{rows_left}
use Rattle.lines.specs.Of.{rows_of}
use Rattle.roster.proofs.releases.write_at.Given as goal
use Rattle.roster.specs.Lent.{written}

abbrev pub invariant-loop-number : goal.invariant-loop-number
invariant-loop-number l =
    (l.number + length (rows_left l.line-iterator) ≤ 8) × (l.number ≡ length l.yielded) × (l.place ≡ l.start + length (released_at 0 (take l.number (rows_of l.lines)) l.t l.release)) × (l.list ≡ written l.start (released_at 0 (take l.number (rows_of l.lines)) l.t l.release) l.initial.list)
