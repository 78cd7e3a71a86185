-- The search that closes it is named, so that a wrong body is refused without the longer ones.
use Rattle.std.proofs.Common.{rules}
use Rattle.sheet.proofs.reporting.figures_text.Goals as goal

pub returns-in-Some : goal.returns-in-Some
returns-in-Some c = search rules
