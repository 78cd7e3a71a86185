use Rattle.analysis.specs.History.{recost}
use Rattle.roster.proofs.Passing.{left_same, works_by}
use Rattle.roster.proofs.roster.Roster.recost.Goals as goal
use Rattle.roster.specs.Working.{watched_in}
use Rattle.std.proofs.Common.{refl}

pub returns : goal.returns
returns g c = record { cost_changed_or_refused_by_checks = works_by _ _ _ (recost c.args.number c.args.cost) c.recost.result _ c.recost.ensures.refused_by_checks c.recost.ensures.that_cost_alone_changes (left_same c.recost.result (watched_in c.args.self.now)) refl }
