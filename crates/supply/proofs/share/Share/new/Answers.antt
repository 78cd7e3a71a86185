-- The search that closes it is named, so that a wrong body is refused without the longer ones.
use Rattle.std.proofs.Common.{rules}
use Rattle.supply.proofs.share.Share.new.Goals as goal

pub returns-in-Some-Some : goal.returns-in-Some-Some
returns-in-Some-Some g c = search rules
