-- The search that closes it is named, so that a wrong body is refused without the longer ones.
use Rattle.std.proofs.Common.{rules}
use Rattle.lines.proofs.table.Lines.iter.Goals as goal

pub returns-clause-walks_lines_in_order : goal.returns-clause-walks_lines_in_order
returns-clause-walks_lines_in_order c = search rules
