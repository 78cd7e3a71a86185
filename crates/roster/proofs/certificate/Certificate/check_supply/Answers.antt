-- The search that closes it is named, so that a wrong body is refused without the longer ones.
use Rattle.std.proofs.Common.{rules}
use Rattle.roster.proofs.certificate.Certificate.check_supply.Goals as goal

pub returns-then-weighed-term : goal.returns-then-weighed-term
returns-then-weighed-term g c = search rules

pub returns : goal.returns
returns g c = search rules
