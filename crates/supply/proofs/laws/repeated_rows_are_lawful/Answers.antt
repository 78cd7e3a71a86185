-- The laws of rows, as the lemmas have them.
use Rattle.supply.specs.Rows.{from_turns, repeating_lawful, worst_first}
use Rattle.supply.proofs.laws.repeated_rows_are_lawful.Goals as goal

pub returns-clause-rows_are_lawful_supplies : goal.returns-clause-rows_are_lawful_supplies
returns-clause-rows_are_lawful_supplies c r some = repeating_lawful r some

pub returns-clause-worst_is_first_of_the_fewest : goal.returns-clause-worst_is_first_of_the_fewest
returns-clause-worst_is_first_of_the_fewest c r = worst_first r

pub returns-clause-whole_turns_add_the_same : goal.returns-clause-whole_turns_add_the_same
returns-clause-whole_turns_add_the_same c r = from_turns r
