-- The search that closes it is named, so that a wrong body is refused without the longer ones.
use Rattle.std.proofs.Common.{rules}
use Rattle.supply.proofs.named.NamedSupply.least.Goals as goal

pub returns-in-Shared-clause-fewest_given_slots : goal.returns-in-Shared-clause-fewest_given_slots
returns-in-Shared-clause-fewest_given_slots c = search rules
