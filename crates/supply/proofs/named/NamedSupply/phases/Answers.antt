-- The search that closes it is named, so that a wrong body is refused without the longer ones.
use Rattle.std.proofs.Common.{rules}
use Rattle.supply.proofs.named.NamedSupply.phases.Goals as goal

pub returns-in-Plain : goal.returns-in-Plain
returns-in-Plain c = search rules
