-- The search that closes it is named, so that a wrong body is refused without the longer ones.
use Rattle.std.proofs.Common.{rules}
use Rattle.run.proofs.releases.Releases.check.Goals as goal

pub returns-then-job-self : goal.returns-then-job-self
returns-then-job-self c = search rules
