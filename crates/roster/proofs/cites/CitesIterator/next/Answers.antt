use Rattle.std.proofs.Common.{◌≡◌, ◌∷◌, length, sym, ap, ◌∙◌, ap₂, arith}
use Rattle.analysis.specs.Watching.{Cite}
use Rattle.roster.proofs.Spelling.{cites_first}
use Rattle.roster.proofs.cites.CitesIterator.next.Goals as goal
use Rattle.roster.specs.Certificate.{cite_at, cites_of}
use Rattle.std.proofs.lemmas.List.{take_rest}

pub returns-clause-steps : goal.returns-clause-steps
returns-clause-steps c =
    let bytes = c.args.self.now.bytes.now in
    let first : cite_at bytes 0 ≡ record { deadline = c.from_be_bytes.result; weight = c.from_be_bytes-2.result } = ap₂ (λ d w. record { deadline = d; weight = w }) (sym c.from_be_bytes.ensures) (sym c.from_be_bytes-2.ensures) in
    cites_first bytes c.args.self.now.whole.0 c.in-len4-up.len_at_least ∙ ap₂ (λ (cite : Cite) rest. cite ∷ cites_of rest) first (sym (take_rest bytes 4))

pub returns-clause-goes : goal.returns-clause-goes
returns-clause-goes c =
    let fewer = ap length (returns-clause-steps c) in
    record { on = λ _. (tt, tt, omega (arith, fewer)); keeps = tt; rests = λ _. tt }
