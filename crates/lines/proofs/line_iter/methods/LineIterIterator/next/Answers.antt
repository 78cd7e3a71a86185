use Rattle.std.proofs.Common.{rules}
use Rattle.lines.proofs.Lawful.{lawful_behind}
use Rattle.lines.proofs.line_iter.methods.LineIterIterator.next.Goals as goal
use Rattle.lines.specs.Demand.{AllLawful}
use Rattle.std.proofs.Common.{subst}

pub invariant_of-self : goal.invariant_of-self
invariant_of-self c =
    let first = c.in_ok-first.first.now in
    let others = c.in_ok-first.others.now in
    record { lawful = lawful_behind first others (subst (λ rows. AllLawful rows) c.in_ok-first.ensures.cases.0 c.args.self.now.lawful) }

pub returns-clause-steps : goal.returns-clause-steps
returns-clause-steps c = search rules
