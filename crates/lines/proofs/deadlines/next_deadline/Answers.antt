-- The fold keeps the least of the lines' next deadlines and the instant behind the end.
use Rattle.lines.proofs.Rising.{soonest, soonest_before, soonest_due}
use Rattle.lines.proofs.deadlines.next_deadline.Goals as goal
use Rattle.lines.specs.Left.{rows_left}
use Rattle.lines.specs.Rest.{due, deadline_after, some}
use Rattle.lines.specs.declared.line.Line.{Line}
use Rattle.std.proofs.Common.{◌≡◌, ℕ, ◌+◌, ◌<◌, min, true, false, refl, rules, tests}
use Rattle.std.proofs.lemmas.Iterator.{YieldsList-from_map}
use Rattle.std.proofs.lemmas.Iterator.Consumers.{YieldsList-at, YieldsList-from_first, fold_from_yields_List}

pub returns : goal.returns
returns c =
    let rows = rows_left c.args.lines in
    let after = c.args.after in
    let past = c.from-past.result + 1 in
    let first = c.fold-first.result in
    let road = YieldsList-at c.map.ensures.source (YieldsList-from_first (λ (line : Line). line.row) rows_left rows refl) in
    let is : first ≡ soonest rows after past c.args.lines.lawful =
    fold_from_yields_List _ min past first c.fold-first.ensures.ran
    (YieldsList-from_map _ (λ row. deadline_after row after) road c.map.ensures.closure (λ x r q k. search rules))
    (λ a x b q k. search (rules, tests)) in
    let before : (k : ℕ) → after < k → k < first → some (due k) rows ≡ false = rw is (soonest_before rows after past c.args.lines.lawful) in
    let there : first < past → (after < first) × (some (due first) rows ≡ true) = rw is (soonest_due rows after past c.args.lines.lawful) in
    search rules
