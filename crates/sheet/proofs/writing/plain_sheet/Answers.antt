use Rattle.std.proofs.Common.{◌≡◌, ◌+◌, ◌<◌, [], length, get_or, sym, ap, ◌∙◌, arith}
use Rattle.grammar.specs.Records.{closing}
use Rattle.lines.proofs.Walk.{turn, all_came}
use Rattle.lines.specs.Demand.{no_row}
use Rattle.lines.specs.Left.{rows_left}
use Rattle.lines.specs.Of.{rows_of}
use Rattle.sheet.proofs.Drafting.{draft_opened, draft_length, draft_more, draft_whole}
use Rattle.sheet.proofs.writing.plain_sheet.Goals as goal
use Rattle.std.proofs.lemmas.List.{length-append, length_push}

pub loop-line-init : goal.loop-line-init
loop-line-init c =
    (omega arith, draft_opened c.args.fields (rows_of c.args.lines.now) _ _ _ c.none-draft.ensures c.opening_bytes.ensures c.push_all.ensures)

pub push_all-requires-in-loop-line : goal.push_all-requires-in-loop-line
push_all-requires-in-loop-line c =
    let lines = c.args.lines.now in
    omega (arith, draft_length c.args.fields (rows_of lines) _ (length c.loop-line.yielded) c.loop-line.invariant.1 c.loop-line.invariant.0, lines.within, length-append c.line_bytes.result [], ap length c.line_bytes.ensures)

pub loop-line-preserved : goal.loop-line-preserved
loop-line-preserved c =
    let rows = rows_of c.args.lines.now in
    let i = length c.loop-line.yielded in
    let same = ap rows_left c.into_iter-line-iterator.ensures.into_iter_gives ∙ c.iter-line-items.ensures.walks_lines_in_order in
    let next : (i < length rows) × (get_or rows i no_row ≡ c.in-Some.line.row) = rw (sym same) (turn _ _ c.next.new.self _ c.in-Some.line c.loop-line.yielded_by c.in-Some.ensures.steps) in
    let row = c.row.ensures.figures_it_was_made_from ∙ sym next.1 in
    rw (length_push c.loop-line.yielded c.in-Some.line) (omega (arith, next.0), draft_more c.args.fields rows _ i c.loop-line.invariant.1 next.0 c.row.result row _ _ c.line_bytes.ensures c.push_all-in-loop-line.ensures)

pub push_all-requires-2 : goal.push_all-requires-2
push_all-requires-2 c =
    let lines = c.args.lines.now in
    omega (arith, draft_length c.args.fields (rows_of lines) _ (length c.loop-line.yielded) c.loop-line.invariant.1 c.loop-line.invariant.0, lines.within, length-append c.closing_bytes.result [], ap length c.closing_bytes.ensures)

pub returns : goal.returns
returns c =
    let rows = rows_of c.args.lines.now in
    let same = ap rows_left c.into_iter-line-iterator.ensures.into_iter_gives ∙ c.iter-line-items.ensures.walks_lines_in_order in
    let all : length rows ≡ length c.loop-line.yielded = rw (sym same) (all_came _ _ _ c.loop-line.yielded_by c.in-None.ensures.steps.0) in
    let last = c.closing_bytes.ensures ∙ ap (λ n. closing (1 + n)) c.len.ensures.counts_lines in
    draft_whole c.args.fields rows _ (length c.loop-line.yielded) c.loop-line.invariant.1 (sym all) _ _ last c.push_all-2.ensures
