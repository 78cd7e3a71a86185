use Rattle.grammar.proofs.OneReading.{one_reading}
use Rattle.grammar.proofs.theorems.bytes_have_one_reading.Goals as goal

pub returns : goal.returns
returns c = record { readings_agree = one_reading }
