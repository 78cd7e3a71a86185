-- The search that closes it is named, so that a wrong body is refused without the longer ones.
use Rattle.std.proofs.Common.{rules}
use Rattle.roster.proofs.roster.Roster.open.Goals as goal

pub returns-clause-holds_no_line : goal.returns-clause-holds_no_line
returns-clause-holds_no_line g c = search rules
