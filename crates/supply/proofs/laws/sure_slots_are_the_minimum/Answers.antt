-- The laws of patterns, as the lemmas have them.
use Rattle.supply.specs.Patterns.{sure_attained, sure_fewest, worst_start}
use Rattle.supply.proofs.laws.sure_slots_are_the_minimum.Goals as goal

pub returns-clause-sure_is_minimum_over_starts : goal.returns-clause-sure_is_minimum_over_starts
returns-clause-sure_is_minimum_over_starts c given of lawful = sure_fewest given of lawful

pub returns-clause-one_start_attains_it : goal.returns-clause-one_start_attains_it
returns-clause-one_start_attains_it c given of lawful = (worst_start given of lawful, sure_attained given of lawful)
