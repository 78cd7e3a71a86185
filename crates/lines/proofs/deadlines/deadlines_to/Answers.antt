use Rattle.lines.proofs.Rising.{deadlines_quiet, deadlines_next, deadlines_longer}
use Rattle.lines.proofs.deadlines.deadlines_to.Goals as goal
use Rattle.lines.specs.Of.{watched}
use Rattle.lines.specs.Rest.{deadlines}
use Rattle.lines.specs.Left.{rows_left}
use Rattle.std.proofs.Common.{◌≡◌, ◌≤◌, [], ◌∷◌, ◌++◌, length, sym, ap, ◌∙◌, rules, arith}
use Rattle.std.proofs.lemmas.List.{length_push}

pub loop-d-init : goal.loop-d-init
unfolding deadlines
loop-d-init c = (omega arith, c.none-list.ensures.watches_nothing)

pub returns-in_err-ok : goal.returns-in_err-ok
returns-in_err-ok c =
    let next = c.in-Some.ensures in
    let rows = rows_left c.args.lines in
    let grown = ap length (deadlines_next rows _ _ next.0 next.2 next.3) in
    let longer = length_push (deadlines rows c.loop-d.at) c.in-Some.d in
    let same = ap length c.loop-d.invariant.1 in
    let full : 256 ≤ length (watched c.loop-d.list) = search rules in
    rw c.from_residual.ensures (omega (arith, deadlines_longer rows _ _ next.1))

pub loop-d-preserved : goal.loop-d-preserved
loop-d-preserved c =
    let next = c.in-Some.ensures in
    let made : watched c.push.new.self ≡ watched c.loop-d.list ++ (c.in-Some.d ∷ []) = search rules in
    let pushed = made ∙ ap (λ ds. ds ++ (c.in-Some.d ∷ [])) c.loop-d.invariant.1 in
    (next.1, pushed ∙ sym (deadlines_next _ _ _ next.0 next.2 next.3))

pub returns : goal.returns
returns c = c.loop-d.invariant.1 ∙ sym (deadlines_quiet _ _ _ c.loop-d.invariant.0 c.in_default.ensures)
