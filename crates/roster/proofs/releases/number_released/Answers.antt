use Rattle.std.proofs.Common.{sym, refl, ◌∙◌, arith, rules, tests}
use Rattle.analysis.proofs.Releases.{witness_length}
use Rattle.lines.specs.Demand.{count}
use Rattle.lines.specs.Left.{rows_left}
use Rattle.lines.specs.Of.{rows_of}
use Rattle.lines.specs.declared.line.Line.{Line}
use Rattle.lines.specs.declared.row.Row.{Row}
use Rattle.roster.proofs.releases.number_released.Goals as goal
use Rattle.std.proofs.lemmas.Iterator.{YieldsList-from_map}
use Rattle.std.proofs.lemmas.Iterator.Adapters.{fits_from_length, at_most_from_yields_List}
use Rattle.std.proofs.lemmas.Iterator.Consumers.{YieldsList-at, YieldsList-from_first, sum_by_from_yields_List}

pub sum-requires-clause-fits : goal.sum-requires-clause-fits
sum-requires-clause-fits c =
    let road = YieldsList-at c.map.ensures.source (YieldsList-from_first (λ (line : Line). line.row) rows_left (rows_left c.iter.result) refl) in
    fits_from_length _ _ 8 _ (at_most_from_yields_List road c.iter.ensures.walks_at_most_8) c.map.ensures.closure (omega arith) (λ x r q k. search (rules, tests))

pub returns : goal.returns
returns c =
    let lines = c.args.lines.now in
    let t = c.args.t in
    let road = YieldsList-at c.map.ensures.source (YieldsList-from_first (λ (line : Line). line.row) rows_left (rows_of lines) c.iter.ensures.walks_lines_in_order) in
    let total = sum_by_from_yields_List (λ (row : Row). count row t) (rows_of lines) c.map.result c.sum.result c.sum.ensures.ran (YieldsList-from_map _ _ road c.map.ensures.closure (λ x r q k. search rules)) in
    total ∙ sym (witness_length (rows_of lines) t lines.lawful)
