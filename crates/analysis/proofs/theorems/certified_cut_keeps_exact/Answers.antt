use Rattle.analysis.proofs.Certificates.{cut_exact}
use Rattle.analysis.proofs.theorems.certified_cut_keeps_exact.Goals as goal

pub returns : goal.returns
returns c = record { list_stays_exact = cut_exact }
