use Rattle.lines.proofs.table.Lines.add.Goals as goal
use Rattle.std.proofs.Common.{rules, arith}
use Rattle.std.proofs.lemmas.Grind.{common_steps}

pub returns-in_err-line : goal.returns-in_err-line
returns-in_err-line c = grind (arith, common_steps)

pub checked-requires : goal.checked-requires
checked-requires c = grind (arith, common_steps)

pub returns : goal.returns
returns c = search rules
