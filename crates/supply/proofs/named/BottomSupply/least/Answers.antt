-- The search that closes it is named, so that a wrong body is refused without the longer ones.
use Rattle.std.proofs.Common.{rules}
use Rattle.supply.proofs.named.BottomSupply.least.Goals as goal

pub returns-in-Whole-clause-fewest_given_slots : goal.returns-in-Whole-clause-fewest_given_slots
returns-in-Whole-clause-fewest_given_slots c = search rules
