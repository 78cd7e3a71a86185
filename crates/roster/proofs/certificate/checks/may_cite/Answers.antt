use Rattle.std.proofs.Common.{arith}
use Rattle.lines.specs.Of.{watched}
use Rattle.roster.proofs.Listed.{decided}
use Rattle.roster.proofs.certificate.checks.may_cite.Goals as goal

pub returns-then-cited-d : goal.returns-then-cited-d
returns-then-cited-d c =
    let apart = c.if-cited-d.true in
    let is = decided c.contains.result c.args.cited (watched c.args.list.now) c.contains.ensures.true_exactly_if_watched in
    grind arith
