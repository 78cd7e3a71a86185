use Rattle.lines.proofs.Gathered.{rest_laws}
use Rattle.lines.proofs.laws.hyperperiod_is_least_and_rest_within.Goals as goal

pub returns : goal.returns
returns c = record { least_multiple_and_first_rest_within = rest_laws _ c.args.lines.now.lawful }
