use Rattle.grammar.proofs.Writing.{plain_lines, written_accepted}
use Rattle.grammar.proofs.theorems.written_sheet_is_accepted.Goals as goal

pub returns : goal.returns
returns c = record { accepted_as_written = written_accepted; lines_are_those_spelled = plain_lines }
