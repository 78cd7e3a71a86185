use Rattle.grammar.proofs.History.{accepted_history}
use Rattle.grammar.proofs.theorems.accepted_sheet_is_a_history.Goals as goal

pub returns : goal.returns
returns c = record { calls_reach_what_it_leaves = accepted_history }
