-- The search that closes it is named, so that a wrong body is refused without the longer ones.
use Rattle.std.proofs.Common.{rules}
use Rattle.lines.proofs.line.Line.new.Goals as goal

pub returns-then-row-lt1-3 : goal.returns-then-row-lt1-3
returns-then-row-lt1-3 c = search rules
