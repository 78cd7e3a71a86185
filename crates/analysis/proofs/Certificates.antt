-- A certificate keeps a list exact: what it cites speaks for the deadline that leaves.
use Rattle.std.proofs.Common.{◌≡◌, ℕ, zero, suc, ◌+◌, ◌*◌, ◌<◌, ◌≤◌, Bool, true, false, cond, not, eqb, List, [], ◌∷◌, length, get_or, filter, sym, refl, ap, ◌∙◌, subst, ⊎_elim, mul-le-mul_left, mul-add, arith}
use Rattle.lines.proofs.Costs.{alike_length, count_alike}
use Rattle.analysis.specs.Watching.{Within, Exact, Cite, weighed, Certifies}
use Rattle.lines.proofs.Counts.{line_laws}
use Rattle.lines.specs.Changes.{Alike, without}
use Rattle.lines.specs.Demand.{AllLawful, no_row, count, work, demand}
use Rattle.lines.specs.Laws.{LineLaws}
use Rattle.lines.specs.declared.row.Row.{Row}
use Rattle.std.proofs.ByRecursion.{has_append_right, All-weaker}
use Rattle.std.proofs.lemmas.Bool.{cases_eq}
use Rattle.std.specs.List.{ContainsAt as Has, AllByRecursion}
use Rattle.supply.specs.Meaning.{Meaning}
use native.Mathlib.Nat.{le_of_mul-le-mul_left}

-- what passes a test stays in what is kept by it
has_kept : (p : ℕ → Bool) (xs : List ℕ) (x k : ℕ) → k < length xs → ((e : ℕ) → get_or xs k e ≡ x) → p x ≡ true → Has (filter p xs) x
has_kept p [] x k l at pass = absurd (omega arith)
has_kept p (y ∷ ys) x zero l at pass = let here : y ≡ x = at 0 in let passes : p y ≡ true = ap p here ∙ pass in rw passes (0, omega arith, λ e. here)
has_kept p (y ∷ ys) x (suc k) l at pass =
    let later = has_kept p ys x k (omega arith) at pass in
    go (p y) later
  where
    go : (b : Bool) → Has (filter p ys) x → Has (cond b (y ∷ filter p ys) (filter p ys)) x
    go true later = has_append_right (y ∷ []) (filter p ys) x later
    go false later = later

has_without : (W : List ℕ) (d x : ℕ) → Has W x → (x ≡ d → ⊥) → Has (without d W) x
has_without W d x h apart = has_kept (λ y. not (eqb y d)) W x h.0 h.1 h.2 (grind arith)

-- weighed sums: of sums, of larger figures, of the work of counts
weighed_sum : (f h : ℕ → ℕ) (cites : List Cite) → weighed (λ t. f t + h t) cites ≡ weighed f cites + weighed h cites
unfolding weighed
weighed_sum f h [] = refl
weighed_sum f h (c ∷ cites) =
    let later = weighed_sum f h cites in
    omega (arith, mul-add c.weight (f c.deadline) (h c.deadline))

weighed_more : (f h : ℕ → ℕ) (cites : List Cite) → AllByRecursion (λ cite. f cite.deadline ≤ h cite.deadline) cites → weighed f cites ≤ weighed h cites
unfolding weighed
weighed_more f h [] all = omega arith
weighed_more f h (c ∷ cites) all =
    let later = weighed_more f h cites all.1 in
    omega (arith, mul-le-mul_left c.weight all.0)

weighed_same : (f h : ℕ → ℕ) (cites : List Cite) → ((t : ℕ) → f t ≡ h t) → weighed f cites ≡ weighed h cites
unfolding weighed
weighed_same f h [] same = refl
weighed_same f h (c ∷ cites) same =
    let later = weighed_same f h cites same in
    omega (arith, ap (λ x. c.weight * x) (same c.deadline))

work_weighed : (row : Row) → LineLaws row → (f : ℕ → ℕ) (cites : List Cite) → work row (weighed f cites) ≤ weighed (λ t. work row (f t)) cites
unfolding weighed
work_weighed row laws f [] = omega (arith, laws.work_none)
work_weighed row laws f (c ∷ cites) =
    let later = work_weighed row laws f cites in
    let parts = laws.work_splits (c.weight * f c.deadline) (weighed f cites) in
    omega (arith, laws.work_scales c.weight (f c.deadline))

-- counts that are covered, line by line, cover demand
pub demand_covered : (rows : List Row) (d q : ℕ) (cites : List Cite) → AllLawful rows → ((i : ℕ) → i < length rows → q * count (get_or rows i no_row) d ≤ weighed (count (get_or rows i no_row)) cites) → q * demand rows d ≤ weighed (demand rows) cites
unfolding demand
demand_covered [] d q cites ok covered = omega (arith, native.Mathlib.Nat.mul-zero q)
demand_covered (row ∷ rows) d q cites ok covered =
    let laws = line_laws row (ok 0 (omega arith)) in
    let here : q * count row d ≤ weighed (count row) cites = covered 0 (omega arith) in
    let most = laws.work_monotone _ _ here in
    let spread = work_weighed row laws (count row) cites in
    let later = demand_covered rows d q cites (λ i l. ok (suc i) (omega arith)) (λ i l. covered (suc i) (omega arith)) in
    let all = weighed_sum (λ t. work row (count row t)) (demand rows) cites in
    omega (arith, laws.work_scales q (count row d), mul-add q (work row (count row d)) (demand rows d))

module _ (m : Meaning) (rows : List Row) (W : List ℕ) (d q : ℕ) (cites : List Cite) (cert : Certifies m rows W d q cites) where
  -- where the cited deadlines are within supply, so is the one that leaves
  covered_within : (others : List Row) → AllLawful others → Alike rows others → ((x : ℕ) → Has (without d W) x → Within m others x) → Within m others d
  covered_within others ok alike at =
      let same = alike_length rows others alike in
      let counts : (i : ℕ) → i < length others → q * count (get_or others i no_row) d ≤ weighed (count (get_or others i no_row)) cites = λ i l.
      let as_row = count_alike rows others i alike l in
      omega (arith, cert.counts i (omega arith), weighed_same _ _ cites as_row, ap (λ n. q * n) (as_row d)) in
      let asked = demand_covered others d q cites ok counts in
      let given = weighed_more (demand others) m.least cites (All-weaker _ _ (λ cite h. at cite.deadline (has_without W d cite.deadline h.0 h.1)) cites cert.cited) in
      let scaled : q * demand others d ≤ q * m.least d = omega (arith, cert.supply) in
      le_of_mul-le-mul_left scaled cert.divides

  -- so the list without it says as much
  pub cut_exact : Exact m rows W → Exact m rows (without d W)
  cut_exact exact others ok alike at =
      exact others ok alike (λ x h. ⊎_elim (λ (e : x ≡ d). subst (λ y. Within m others y) (sym e) (covered_within others ok alike at)) (λ (apart : x ≡ d → ⊥). at x (has_without W d x h apart)) (cases_eq x d))
