-- The search that closes it is named, so that a wrong body is refused without the longer ones.
use Rattle.std.proofs.Common.{rules}
use Rattle.run.proofs.outcome.OutcomeDisplay.fmt.Goals as goal

pub returns-in-Met-clause-writes : goal.returns-in-Met-clause-writes
returns-in-Met-clause-writes g c = search rules
