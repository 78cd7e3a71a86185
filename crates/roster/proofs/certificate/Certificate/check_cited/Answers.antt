use Rattle.std.proofs.Common.{not, ◌||◌, eqb, rules}
use Rattle.lines.specs.Of.{watched}
use Rattle.roster.proofs.certificate.Certificate.check_cited.Goals as goal
use Rattle.roster.specs.Certificate.{listed}

pub returns : goal.returns
returns c = c.check_none.ensures (λ cite. not (listed cite.deadline (watched c.args.list.now)) || eqb cite.deadline c.args.self.now.deadline) (λ cite r e. search rules)
