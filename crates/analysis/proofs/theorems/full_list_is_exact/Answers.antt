use Rattle.analysis.proofs.Watching.{full_list_exact}
use Rattle.analysis.proofs.theorems.full_list_is_exact.Goals as goal

pub returns : goal.returns
returns c = record { full_list_says_enough = full_list_exact }
