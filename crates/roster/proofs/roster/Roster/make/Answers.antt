-- The search that closes it is named, so that a wrong body is refused without the longer ones.
use Rattle.std.proofs.Common.{rules}
use Rattle.roster.proofs.roster.Roster.make.Goals as goal

pub returns-in-Recost : goal.returns-in-Recost
returns-in-Recost g c = search rules
