-- Each phase begins with its count of given slots, and the fold keeps the first of the lowest.
use Rattle.std.proofs.Common.{rules, tests, ◌≡◌, ℕ, ◌-◌, ap, ◌∙◌, arith}
use Rattle.std.proofs.lemmas.Iterator.{YieldsList-from_map, YieldsList-from_range}
use Rattle.std.proofs.lemmas.Iterator.Consumers.{fold_from_yields_List}
use Rattle.supply.proofs.Lowest.{lower, lowest_pair, fold_from_first}
use Rattle.supply.specs.Row.{from}
use Rattle.supply.specs.Rows.{timetable_bounds}
use Rattle.supply.specs.Timetable.{bits}
use Rattle.supply.proofs.timetable.questions.TimetableSupply.least.Goals as goal

folded : (c : goal.After-fold) → c.fold.result ≡ lowest_pair (λ p. from (bits c.args.self.now.length c.args.self.now.word) p c.args.n) c.args.self.now.length
folded c =
    let t = c.args.self.now in
    let bounds = timetable_bounds t.length t.word t.lawful in
    let f = λ (p : ℕ). from (bits t.length t.word) p c.args.n in
    let all = YieldsList-from_map _ (λ p. (f p, p)) (YieldsList-from_range 1 t.length (t.length - 1) c.map.ensures.source (omega (arith, bounds))) c.map.ensures.closure (λ x r q k. search rules) in
    fold_from_yields_List _ lower _ _ c.fold.ensures.ran all (λ a x b q k. search (rules, tests))
    ∙ fold_from_first f c.given_from.result t.length c.given_from.ensures bounds.0

pub returns-clause-fewest_given_slots : goal.returns-clause-fewest_given_slots
returns-clause-fewest_given_slots c = ap (λ (p : ℕ × ℕ). p.0) (folded c)

pub returns-clause-phase_with_so_few : goal.returns-clause-phase_with_so_few
returns-clause-phase_with_so_few c = ap (λ (p : ℕ × ℕ). p.1) (folded c)
