-- The search that closes it is named, so that a wrong body is refused without the longer ones.
use Rattle.std.proofs.Common.{rules}
use Rattle.embed.proofs.border.RunAnswerFromResultOutcomeSheetRefusal.from.Goals as goal

pub returns-in-Ok-Missed : goal.returns-in-Ok-Missed
returns-in-Ok-Missed c = search rules
