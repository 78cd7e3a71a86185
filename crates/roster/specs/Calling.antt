-- The call that a value of the calls' type stands for, and the lines that follow from such calls. Assumes nothing.
use Rattle.std.specs.Prelude.{List, [], map}
use Rattle.analysis.specs.History as history
use Rattle.lines.specs.declared.row.Row.{Row}
use Rattle.roster.specs.Certificate.{cites_of}
use Rattle.roster.specs.declared.call.Call.{Call}
use Rattle.roster.specs.declared.call.Call.TheVariants.{Enrol, Strike, Recost, Cut}

abbrev pub call_of : Call → history.Call
call_of (Enrol row) = history.enrol row
call_of (Strike line) = history.strike line
call_of (Recost line cost) = history.recost line cost
call_of (Cut deadline divisor cites) = history.cut deadline divisor (cites_of cites.now)

-- The lines that follow from the arguments of calls alone, from an opening on.
abbrev pub rows_from : List Call → List Row
rows_from calls = history.follow [] (map call_of calls)
