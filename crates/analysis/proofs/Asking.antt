-- Demand of lawful lines: none at 0, the same between deadlines, and at most the sum of its parts at a rest point.
use Rattle.std.proofs.Common.{◌≡◌, ℕ, suc, ◌+◌, ◌-◌, ◌≤◌, true, false, List, [], ◌∷◌, refl, ap, ◌∙◌, arith}
use Rattle.lines.proofs.Counts.{line_laws, counted_step}
use Rattle.lines.specs.Demand.{Lawful, AllLawful, count, work, demand}
use Rattle.lines.specs.Rest.{every, some, resting, due}
use Rattle.lines.specs.declared.row.Row.{Row}

lawful_rest : (row : Row) (rows : List Row) → AllLawful (row ∷ rows) → AllLawful rows
lawful_rest row rows ok i l = ok (suc i) (omega arith)

lawful_head : (row : Row) (rows : List Row) → AllLawful (row ∷ rows) → Lawful row
lawful_head row rows ok = ok 0 (omega arith)

-- what holds of the work of every line holds of demand
pub demand_none : (rows : List Row) → AllLawful rows → demand rows 0 ≡ 0
unfolding demand
demand_none [] ok = refl
demand_none (row ∷ rows) ok =
    let lawful = lawful_head row rows ok in
    let none : count row 0 ≡ 0 = grind arith in
    let here : work row (count row 0) ≡ 0 = ap (work row) none ∙ (line_laws row lawful).work_none in
    let later = demand_none rows (lawful_rest row rows ok) in
    omega arith

-- between two deadlines nothing is added
pub demand_still : (rows : List Row) (t : ℕ) → AllLawful rows → some (due (suc t)) rows ≡ false → demand rows (suc t) ≡ demand rows t
unfolding demand some
demand_still [] t ok quiet = refl
demand_still (row ∷ rows) t ok quiet =
    let here : due (suc t) row ≡ false = grind arith in
    let rest : some (due (suc t)) rows ≡ false = grind arith in
    let same = ap (work row) (counted_step row (lawful_head row rows ok) t here) in
    let later = demand_still rows t (lawful_rest row rows ok) rest in
    omega arith

-- at a rest point demand splits
pub demand_splits : (rows : List Row) (r t : ℕ) → AllLawful rows → every (resting r) rows ≡ true → r ≤ t → demand rows t ≤ demand rows r + demand rows (t - r)
unfolding demand every
demand_splits [] r t ok rests le = omega arith
demand_splits (row ∷ rows) r t ok rests le =
    let laws = line_laws row (lawful_head row rows ok) in
    let here : resting r row ≡ true = grind arith in
    let others : every (resting r) rows ≡ true = grind arith in
    let counts = laws.count_splits r t here le in
    let most = laws.work_monotone _ _ counts in
    let parts = laws.work_splits (count row r) (count row (t - r)) in
    let later = demand_splits rows r t (lawful_rest row rows ok) others le in
    omega arith
