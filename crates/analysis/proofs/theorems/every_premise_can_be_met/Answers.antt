use Rattle.analysis.proofs.Instance.{example}
use Rattle.analysis.proofs.theorems.every_premise_can_be_met.Goals as goal

pub returns : goal.returns
returns c = record { premises_met_by_an_example = example }
