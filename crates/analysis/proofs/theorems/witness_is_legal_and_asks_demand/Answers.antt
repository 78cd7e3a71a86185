use Rattle.analysis.proofs.Witness.{witness_legal, witness_load}
use Rattle.analysis.proofs.theorems.witness_is_legal_and_asks_demand.Goals as goal

pub returns : goal.returns
returns c = record { legal_and_asks_demand = λ rows t ok. (witness_legal rows t ok, witness_load rows t ok) }
