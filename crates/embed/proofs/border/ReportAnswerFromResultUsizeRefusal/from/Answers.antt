-- The search that closes it is named, so that a wrong body is refused without the longer ones.
use Rattle.std.proofs.Common.{rules}
use Rattle.embed.proofs.border.ReportAnswerFromResultUsizeRefusal.from.Goals as goal

pub returns-in-Err : goal.returns-in-Err
returns-in-Err c = search rules
