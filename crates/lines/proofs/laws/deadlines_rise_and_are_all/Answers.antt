use Rattle.lines.proofs.Gathered.{deadline_laws}
use Rattle.lines.proofs.laws.deadlines_rise_and_are_all.Goals as goal

pub returns : goal.returns
returns c = record { rise_and_hold_just_the_deadlines = deadline_laws _ c.args.n c.args.lines.now.lawful }
