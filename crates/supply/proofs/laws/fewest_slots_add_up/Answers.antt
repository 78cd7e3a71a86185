use Rattle.supply.specs.Least.{least_bounded, least_monotone, least_superadditive}
use Rattle.supply.proofs.laws.fewest_slots_add_up.Goals as goal

pub returns-clause-at_most_all_are_given : goal.returns-clause-at_most_all_are_given
returns-clause-at_most_all_are_given g c = let s = c.args.supply.now in least_bounded (g.S.Supply.meaning s) (g.met.S.Supply.lawful s)

pub returns-clause-more_slots_hold_no_fewer : goal.returns-clause-more_slots_hold_no_fewer
returns-clause-more_slots_hold_no_fewer g c = let s = c.args.supply.now in least_monotone (g.S.Supply.meaning s) (g.met.S.Supply.lawful s)

pub returns-clause-windows_add_up : goal.returns-clause-windows_add_up
returns-clause-windows_add_up g c = let s = c.args.supply.now in least_superadditive (g.S.Supply.meaning s) (g.met.S.Supply.lawful s)
