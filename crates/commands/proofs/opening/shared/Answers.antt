-- The search that closes it is named, so that a wrong body is refused without the longer ones.
use Rattle.std.proofs.Common.{rules}
use Rattle.commands.proofs.opening.shared.Goals as goal

pub returns : goal.returns
returns c = search rules
