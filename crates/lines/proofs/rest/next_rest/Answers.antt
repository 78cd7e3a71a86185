use Rattle.lines.proofs.Every.{every_from, every_fails}
use Rattle.lines.proofs.Walk.{turn, all_came}
use Rattle.lines.proofs.rest.next_rest.Goals as goal
use Rattle.lines.specs.Demand.{no_row}
use Rattle.lines.specs.Left.{rows_left}
use Rattle.lines.specs.Rest.{resting}
use Rattle.std.proofs.Common.{◌≡◌, ◌<◌, length, get_or, ap, ◌∙◌, sym, arith}

pub returns-in-Some-next_rest : goal.returns-in-Some-next_rest
returns-in-Some-next_rest c =
    let rows = rows_left c.args.lines in
    let next : (length c.loop-line.yielded < length rows) × (get_or rows (length c.loop-line.yielded) no_row ≡ c.in-Some.line.row) = rw (sym c.into_iter-line-iterator.ensures.into_iter_gives) (turn _ _ c.next.new.self _ c.in-Some.line c.loop-line.yielded_by c.in-Some.ensures.steps) in
    let later = c.in-Some-next_rest.ensures in
    (later.0, λ k le l. every_fails (resting k) rows (length c.loop-line.yielded) next.0 (ap (resting k) next.1 ∙ later.1 k le l))

pub returns : goal.returns
returns c =
    let all : length (rows_left c.args.lines) ≡ length c.loop-line.yielded = rw (sym c.into_iter-line-iterator.ensures.into_iter_gives) (all_came _ _ _ c.loop-line.yielded_by c.in-None.ensures.steps.0) in
    every_from (resting c.args.t) (rows_left c.args.lines) (λ i l. c.loop-line.invariant i (omega arith))
