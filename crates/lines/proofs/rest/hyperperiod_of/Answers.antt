use Rattle.lines.proofs.Hyperperiod.{hyperperiod_positive, hyperperiod_more, hyperperiod_over}
use Rattle.lines.proofs.Lawful.{lawful_take}
use Rattle.lines.proofs.Walk.{turn, all_came}
use Rattle.lines.proofs.rest.hyperperiod_of.Goals as goal
use Rattle.lines.specs.Common.{Common, LeastCommon}
use Rattle.lines.specs.Demand.{no_row}
use Rattle.lines.specs.Left.{rows_left}
use Rattle.lines.specs.Rest.{first, every, product, hyperperiod}
use Rattle.lines.specs.declared.row.Row.{Row}
use Rattle.std.proofs.Common.{◌≡◌, ◌<◌, length, take, get_or, sym, refl, ap, ◌∙◌, subst, arith, take_all}
use Rattle.std.proofs.lemmas.List.{length_push}

pub loop-line-init : goal.loop-line-init
unfolding first every product
loop-line-init c = (omega arith, refl, omega arith)

pub least_common-requires : goal.least_common-requires
least_common-requires c =
    let i = length c.loop-line.yielded in
    let rows = rows_left c.args.lines in
    let some = hyperperiod_positive (take i rows) (lawful_take rows i c.args.lines.lawful) in
    omega (arith, ap (λ (row : Row). row.period) c.row.ensures.figures_it_was_made_from, c.loop-line.invariant.1, c.loop-line.invariant.2, c.in-Some.line.lawful)

pub returns-in_err-h : goal.returns-in_err-h
returns-in_err-h c =
    let rows = rows_left c.args.lines in
    let next : (length c.loop-line.yielded < length rows) × (get_or rows (length c.loop-line.yielded) no_row ≡ c.in-Some.line.row) = rw (sym c.into_iter-line-iterator.ensures.into_iter_gives) (turn _ _ c.next.new.self _ c.in-Some.line c.loop-line.yielded_by c.in-Some.ensures.steps) in
    let period = ap (λ (row : Row). row.period) (next.1 ∙ sym c.row.ensures.figures_it_was_made_from) in
    let over = hyperperiod_over rows (length c.loop-line.yielded) next.0 c.args.lines.lawful _ c.loop-line.invariant.1 in
    rw c.from_residual.ensures (c.in_err-h.ensures _ (subst (λ p. Common c.loop-line.h p (hyperperiod rows)) period over))

pub loop-line-preserved : goal.loop-line-preserved
loop-line-preserved c =
    let rows = rows_left c.args.lines in
    let next : (length c.loop-line.yielded < length rows) × (get_or rows (length c.loop-line.yielded) no_row ≡ c.in-Some.line.row) = rw (sym c.into_iter-line-iterator.ensures.into_iter_gives) (turn _ _ c.next.new.self _ c.in-Some.line c.loop-line.yielded_by c.in-Some.ensures.steps) in
    let period = ap (λ (row : Row). row.period) (next.1 ∙ sym c.row.ensures.figures_it_was_made_from) in
    let answer = c.in_ok-h.ensures in
    let least = subst (λ p. LeastCommon c.loop-line.h p c.in_ok-h.h) (sym period) answer.0 in
    rw (length_push c.loop-line.yielded c.in-Some.line) (omega arith, hyperperiod_more rows (length c.loop-line.yielded) next.0 c.args.lines.lawful _ _ c.loop-line.invariant.1 least, answer.1)

pub returns : goal.returns
returns c =
    let all : length (rows_left c.args.lines) ≡ length c.loop-line.yielded = rw (sym c.into_iter-line-iterator.ensures.into_iter_gives) (all_came _ _ _ c.loop-line.yielded_by c.in-None.ensures.steps.0) in
    (c.loop-line.invariant.1 ∙ ap hyperperiod (take_all _ _ (omega arith)), c.loop-line.invariant.2)
