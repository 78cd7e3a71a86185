use Rattle.std.proofs.Common.{◌<◌, ◌≤◌, length, sym, subst, inl, arith, rules, ltb-false, ltb-true}
use Rattle.grammar.proofs.Decoding.{Unlike, misplaced_later}
use Rattle.grammar.specs.Reading.{cut_short, misplaced}
use Rattle.sheet.proofs.records.step.Goals as goal
use Rattle.sheet.specs.Stepping.{Faulty}
use Rattle.std.proofs.lemmas.Grind.{common_steps}

pub returns-in_default : goal.returns-in_default
returns-in_default c =
    let rest = c.args.rest.now in
    let few : length rest < 2 = omega (arith, ltb-true, ltb-false) in
    subst (λ why. Faulty c.args.roster.now c.args.before rest why) (sym c.by_sheet.ensures) (cut_short (inl few))

pub returns-in-len2-up : goal.returns-in-len2-up
returns-in-len2-up c =
    let rest = c.args.rest.now in
    let long : 2 ≤ length rest = omega (arith, ltb-true, ltb-false) in
    let line : Unlike 76 78 rest = λ s u. search rules in
    let certificate : Unlike 67 85 rest = λ s u. search rules in
    let closing : Unlike 69 78 rest = λ s u. search rules in
    subst (λ why. Faulty c.args.roster.now c.args.before rest why) (sym c.by_sheet-in-len2-up.ensures) (misplaced (misplaced_later rest long line certificate closing))

pub returns-in_err-cut-in-67 : goal.returns-in_err-cut-in-67
returns-in_err-cut-in-67 c = grind (arith, common_steps)

pub returns-in_ok-cut-in-67 : goal.returns-in_ok-cut-in-67
returns-in_ok-cut-in-67 c = grind (arith, common_steps)

pub returns-in_err-closed-in-69 : goal.returns-in_err-closed-in-69
returns-in_err-closed-in-69 c = grind (arith, common_steps)
