use Rattle.std.proofs.Common.{◌≡◌, ◌<◌, ◌≤◌, length, get_or, sym, subst, inl, arith, rules, ltb-false, ltb-true}
use Rattle.grammar.proofs.Decoding.{Unlike, behind_mark, misplaced_first}
use Rattle.grammar.specs.Reading.{FaultFirst, cut_short, misplaced}
use Rattle.sheet.proofs.records.first.Goals as goal
use Rattle.sheet.specs.Stepping.{Opening}

pub returns-in_default : goal.returns-in_default
returns-in_default c =
    let bytes = c.args.bytes.now in
    let few : length bytes < 2 = omega (arith, ltb-true, ltb-false) in
    subst (λ why. FaultFirst bytes why) (sym c.by_sheet.ensures) (cut_short (inl few))

pub returns-in-83 : goal.returns-in-83
returns-in-83 c =
    let bytes = c.args.bytes.now in
    let long : 2 ≤ length bytes = omega (arith, ltb-true, ltb-false) in
    let s : get_or bytes 0 0 ≡ 83 = search rules in
    let u : get_or bytes 1 0 ≡ 85 = search rules in
    subst (λ x. Opening x c.opened.result) (behind_mark bytes 83 85 long s u) c.opened.ensures

pub returns-in-len2-up : goal.returns-in-len2-up
returns-in-len2-up c =
    let bytes = c.args.bytes.now in
    let long : 2 ≤ length bytes = omega (arith, ltb-true, ltb-false) in
    let other : Unlike 83 85 bytes = λ s u. search rules in
    subst (λ why. FaultFirst bytes why) (sym c.by_sheet-in-len2-up.ensures) (misplaced (misplaced_first bytes long other))
