use Rattle.lines.proofs.Counts.{counted_within}
use Rattle.lines.proofs.table.Lines.demand.Goals as goal
use Rattle.lines.specs.Demand.{count, work, demand}
use Rattle.lines.specs.Left.{rows_left}
use Rattle.lines.specs.declared.line.Line.{Line}
use Rattle.lines.specs.declared.row.Row.{Row}
use Rattle.std.proofs.Common.{◌≡◌, ℕ, ◌+◌, ◌*◌, ◌<◌, ◌≤◌, List, [], ◌∷◌, sum_by, refl, ap, ◌∙◌, rules, arith, mul-le-mul}
use Rattle.std.proofs.lemmas.Iterator.{YieldsList-from_map}
use Rattle.std.proofs.lemmas.Iterator.Adapters.{fits_from_length, at_most_from_yields_List}
use Rattle.std.proofs.lemmas.Iterator.Consumers.{YieldsList-at, YieldsList-from_first, sum_by_from_yields_List}
use Rattle.std.proofs.lemmas.List.Sums.{sum_by-cons}

demand_is : (rows : List Row) (t : ℕ) → sum_by (λ row. work row (count row t)) rows ≡ demand rows t
unfolding demand
demand_is [] t = refl
demand_is (row ∷ rows) t =
    sum_by-cons (λ row. work row (count row t)) row rows ∙ ap (λ n. work row (count row t) + n) (demand_is rows t)

work_bound : (line : Line) (t r : ℕ) → t < 65536 → r ≡ work line.row (count line.row t) → r ≤ 536870911
work_bound line t r fits is =
    let lawful = line.lawful in
    let few = counted_within line.row.period line.row.deadline lawful.0 lawful.1 t in
    let most : count line.row t * line.row.cost ≤ 65535 * 1000 = mul-le-mul {n₂ = 65535} (omega arith) lawful.4 in
    omega arith

pub sum-requires-clause-fits : goal.sum-requires-clause-fits
sum-requires-clause-fits c =
    let road = YieldsList-at c.map.ensures.source (YieldsList-from_first (λ (line : Line). line.row) rows_left (rows_left c.iter.result) refl) in
    fits_from_length _ _ 8 _ (at_most_from_yields_List road c.iter.ensures.walks_at_most_8) c.map.ensures.closure (omega arith) (λ x r q k. (search rules, work_bound x c.args.t r c.ranges.t.fits (search rules)))

pub returns : goal.returns
returns c =
    let road = YieldsList-at c.map.ensures.source (YieldsList-from_first (λ (line : Line). line.row) rows_left (rows_left c.iter.result) refl) in
    let total = sum_by_from_yields_List (λ (row : Row). work row (count row c.args.t)) (rows_left c.iter.result) c.map.result c.sum.result c.sum.ensures.ran (YieldsList-from_map _ _ road c.map.ensures.closure (λ x r q k. search rules)) in
    record { sums_work_due = total ∙ demand_is _ _ ∙ ap (λ rows. demand rows c.args.t) c.iter.ensures.walks_lines_in_order }
