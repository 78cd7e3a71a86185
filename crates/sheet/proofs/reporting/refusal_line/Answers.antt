use Rattle.sheet.proofs.reporting.refusal_line.Goals as goal
use Rattle.std.proofs.Common.{arith}
use Rattle.std.proofs.lemmas.List.{length-append}

pub push_all-requires : goal.push_all-requires
push_all-requires c = grind (arith, length-append)
