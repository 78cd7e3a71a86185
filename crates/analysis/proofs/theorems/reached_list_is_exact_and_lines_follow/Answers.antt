use Rattle.analysis.proofs.Reaching.{reached_exact, lines_follow}
use Rattle.analysis.proofs.theorems.reached_list_is_exact_and_lines_follow.Goals as goal

pub returns : goal.returns
returns c = record { reached_list_is_exact = reached_exact; lines_follow_from_calls = lines_follow }
