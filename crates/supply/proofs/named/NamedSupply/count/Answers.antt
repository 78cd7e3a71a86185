-- The search that closes it is named, so that a wrong body is refused without the longer ones.
use Rattle.std.proofs.Common.{rules}
use Rattle.supply.proofs.named.NamedSupply.count.Goals as goal

pub returns-in-Shared : goal.returns-in-Shared
returns-in-Shared c = search rules
