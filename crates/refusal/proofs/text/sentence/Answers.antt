-- The search that closes it is named, so that a wrong body is refused without the longer ones.
use Rattle.std.proofs.Common.{rules}
use Rattle.refusal.proofs.text.sentence.Goals as goal

pub returns-in-CostOutOfRange : goal.returns-in-CostOutOfRange
returns-in-CostOutOfRange c = search rules
