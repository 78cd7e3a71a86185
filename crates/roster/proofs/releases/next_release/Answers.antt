use Rattle.std.proofs.Common.{◌≡◌, ◌+◌, ◌-◌, ◌%◌, ◌<◌, ◌≤◌, length, min, get_or, sym, ap, ◌∙◌, subst, ap₂, arith}
use Rattle.analysis.proofs.Releases.{Unreleased, next_period, unreleased_more, unreleased_all}
use Rattle.lines.proofs.Walk.{turn, all_came}
use Rattle.lines.specs.Demand.{Lawful, no_row}
use Rattle.lines.specs.Left.{rows_left}
use Rattle.lines.specs.Of.{rows_of}
use Rattle.lines.specs.declared.row.Row.{Row}
use Rattle.roster.proofs.releases.next_release.Goals as goal
use Rattle.std.proofs.lemmas.List.{length_push}

pub loop-line-preserved : goal.loop-line-preserved
loop-line-preserved c =
    let rows = rows_of c.args.lines.now in
    let after = c.args.after in
    let n = length c.loop-line.yielded in
    let line = c.in-Some.line in
    let row = get_or rows n no_row in
    let same = ap rows_left c.into_iter-line-iterator.ensures.into_iter_gives ∙ c.iter-line-items.ensures.walks_lines_in_order in
    let next : (n < length rows) × (row ≡ line.row) = rw (sym same) (turn _ _ c.next.new.self _ line c.loop-line.yielded_by c.in-Some.ensures.steps) in
    let here : line.row ≡ row = sym next.1 in
    let lawful : Lawful row = subst Lawful here line.lawful in
    let one : 1 ≤ row.period = omega (arith, lawful) in
    let period = ap (λ (x : Row). x.period) (c.row-period.ensures.figures_it_was_made_from ∙ here) in
    let rest = c.from-in-loop-line.ensures ∙ ap (λ p. p - after % p) period in
    let is = c.min-first.ensures ∙ ap (min c.loop-line.first) (ap₂ (λ x y. x + y) c.from.ensures rest) in
    let later = next_period row.period after one in (
      omega (arith, is, c.loop-line.invariant.0, later),
      omega (arith, is, c.loop-line.invariant.1),
      rw (length_push c.loop-line.yielded line) (subst (Unreleased rows (n + 1) after) (sym is) (unreleased_more rows after n c.loop-line.first lawful c.loop-line.invariant.2)),
    )

pub returns-clause-none_between : goal.returns-clause-none_between
returns-clause-none_between c =
    let rows = rows_of c.args.lines.now in
    let same = ap rows_left c.into_iter-line-iterator.ensures.into_iter_gives ∙ c.iter-line-items.ensures.walks_lines_in_order in
    let all : length rows ≡ length c.loop-line.yielded = rw (sym same) (all_came _ _ _ c.loop-line.yielded_by c.in-None.ensures.steps.0) in
    unreleased_all rows c.args.after (length c.loop-line.yielded) c.loop-line.first (omega arith) c.loop-line.invariant.2
