-- The search that closes it is named, so that a wrong body is refused without the longer ones.
use Rattle.std.proofs.Common.{rules}
use Rattle.refusal.proofs.text.RefusalDisplay.fmt.Goals as goal

pub returns-clause-writes : goal.returns-clause-writes
returns-clause-writes g c = search rules
