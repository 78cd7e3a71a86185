-- The lines so far are the rows so far, each of which could be taken.
use Rattle.std.proofs.Common.{◌≡◌, take}
use Rattle.commands.specs.Surveying.{TakenBefore}
use Rattle.lines.specs.Of.{rows_of, watched}
use Rattle.lines.specs.Rest.{full_list}
use Rattle.commands.proofs.surveying.taken.Given as goal

abbrev pub invariant-loop-number : goal.invariant-loop-number
invariant-loop-number l = record { lines : rows_of l.taken.0 ≡ take l.number l.rows; deadlines : watched l.taken.1 ≡ full_list (rows_of l.taken.0); taken : TakenBefore l.rows l.number }
