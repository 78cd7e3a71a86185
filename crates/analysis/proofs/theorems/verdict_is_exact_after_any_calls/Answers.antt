use Rattle.analysis.proofs.Reaching.{verdict_exact}
use Rattle.analysis.proofs.theorems.verdict_is_exact_after_any_calls.Goals as goal

pub returns : goal.returns
returns c = record { verdict_is_exact = verdict_exact }
