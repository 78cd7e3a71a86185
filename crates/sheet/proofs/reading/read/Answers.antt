-- The search that closes it is named, so that a wrong body is refused without the longer ones.
use Rattle.std.proofs.Common.{rules}
use Rattle.sheet.proofs.reading.read.Goals as goal

pub returns-in_err-roster : goal.returns-in_err-roster
returns-in_err-roster c = search rules
