-- The window bound: in a window of time a legal list brings no more work than demand at its length.
use Rattle.std.proofs.Common.{◌≡◌, ℕ, zero, suc, ◌+◌, ◌-◌, ◌*◌, ◌<◌, ◌≤◌, Bool, true, false, cond, ◌&&◌, eqb, ltb, leb, ◌⊎◌, List, [], ◌∷◌, length, get_or, sym, refl, ap, ◌∙◌, inl, inr, ⊎_elim, add-mul, arith}
use Rattle.analysis.specs.Legal.{row_of, no_job, Legal}
use Rattle.edf.proofs.DoubleCount.{charge, load_places}
use Rattle.edf.proofs.Sums.{sum, sum_le, sum_same, sum_none, sum_add, sum_first}
use Rattle.edf.specs.Jobs.{job}
use Rattle.edf.specs.Load.{load}
use Rattle.lines.proofs.Counts.{line_laws, counted_below}
use Rattle.lines.specs.Demand.{AllLawful, no_row, count, work, demand}
use Rattle.lines.specs.declared.row.Row.{Row}
use Rattle.run.specs.Timed.{timed, timed_list}
use Rattle.run.specs.declared.job.Job.{Job}
use Rattle.std.proofs.lemmas.List.{length-map, get_or-map}
use Rattle.std.proofs.lemmas.Bool.{cases_lt, cases_eq}

-- at most one term counts, where any two that count are the same
sum_one : (f : ℕ → ℕ) (n : ℕ) → ((k : ℕ) → k < n → f k ≤ 1) → ((j k : ℕ) → j < k → k < n → 1 ≤ f j → 1 ≤ f k → ⊥) → sum f n ≤ 1
unfolding sum
sum_one f zero each alone = omega arith
sum_one f (suc n) each alone =
    by_last (cases_lt (f n) 1) (sum_one f n (λ k l. each k (omega arith)) (λ j k l m. alone j k l (omega arith)))
  where
    before : 1 ≤ f n → (k : ℕ) → k < n → f k ≡ 0
    before one k l = let clash : 1 ≤ f k → ⊥ = λ h. alone k n l (omega arith) h one in omega arith

    by_last : (f n < 1) ⊎ (1 ≤ f n) → sum f n ≤ 1 → sum f n + f n ≤ 1
    by_last (inl none) below = omega arith
    by_last (inr one) below = omega (arith, sum_none f n (before one), each n (omega arith))

-- what stands at one place alone is the whole sum
sum_pick : (c j n : ℕ) → j < n → sum (λ i. cond (eqb j i) c 0) n ≡ c
unfolding sum
sum_pick c j zero l = absurd (omega arith)
sum_pick c j (suc n) l = by_place (cases_eq j n) (sum_pick c j n)
  where
    others : j ≡ n → (i : ℕ) → i < n → cond (eqb j i) c 0 ≡ 0
    others e i m = grind arith

    by_place : (j ≡ n) ⊎ (j ≡ n → ⊥) → (j < n → sum (λ i. cond (eqb j i) c 0) n ≡ c) → sum (λ i. cond (eqb j i) c 0) n + cond (eqb j n) c 0 ≡ c
    by_place (inl e) before = let none = sum_none (λ i. cond (eqb j i) c 0) n (others e) in grind arith
    by_place (inr apart) before = let below = before (omega arith) in grind arith

-- sums over two indices, in either order
sum_exchange : (f : ℕ → ℕ → ℕ) (n m : ℕ) → sum (λ k. sum (f k) m) n ≡ sum (λ i. sum (λ k. f k i) n) m
unfolding sum
sum_exchange f zero m = sym (sum_none (λ i. 0) m (λ i l. refl))
sum_exchange f (suc n) m =
    let below = sum_exchange f n m in
    omega (arith, sum_add (λ i. sum (λ k. f k i) n) (f n) m)

-- terms of at most c each, where a test passes, are at most c for each pass
sum_counted : (here : ℕ → Bool) (f : ℕ → ℕ) (c n : ℕ) → ((k : ℕ) → k < n → here k ≡ true → f k ≤ c) → sum (λ k. cond (here k) (f k) 0) n ≤ sum (λ k. cond (here k) 1 0) n * c
unfolding sum
sum_counted here f c zero most = omega arith
sum_counted here f c (suc n) most = by_test (here n) refl (sum_counted here f c n (λ k l. most k (omega arith)))
  where
    by_test : (b : Bool) → here n ≡ b → sum (λ k. cond (here k) (f k) 0) n ≤ sum (λ k. cond (here k) 1 0) n * c → sum (λ k. cond (here k) (f k) 0) n + cond (here n) (f n) 0 ≤ (sum (λ k. cond (here k) 1 0) n + cond (here n) 1 0) * c
    by_test true e below = rw e (omega (arith, most n (omega arith) e, add-mul (sum (λ k. cond (here k) 1 0) n) 1 c))
    by_test false e below = rw e (omega (arith, add-mul (sum (λ k. cond (here k) 1 0) n) 0 c))

-- demand by the numbers of the lines
pub demand_places : (rows : List Row) (t : ℕ) → demand rows t ≡ sum (λ i. work (get_or rows i no_row) (count (get_or rows i no_row) t)) (length rows)
unfolding demand sum
demand_places [] t = refl
demand_places (row ∷ rows) t =
    let below = demand_places rows t in
    omega (arith, sum_first (λ i. work (get_or (row ∷ rows) i no_row) (count (get_or (row ∷ rows) i no_row) t)) (length rows))

-- the figures of the job at place k
abbrev at_line : List Job → ℕ → ℕ
at_line jobs k = (get_or jobs k no_job).line

abbrev at_release : List Job → ℕ → ℕ
at_release jobs k = (get_or jobs k no_job).release

-- place k is a job of line i that is released and due inside the window from a to d, at a deadline of D
abbrev here : List Job → (D i a d k : ℕ) → Bool
here jobs D i a d k = eqb (at_line jobs k) i && (leb a (at_release jobs k) && leb (at_release jobs k + D) d)

-- how many such places there are
abbrev number : List Job → (D i a d : ℕ) → ℕ
number jobs D i a d = sum (λ k. cond (here jobs D i a d k) 1 0) (length jobs)

-- place k is a job of line i that is released within T of a
abbrev first_period : List Job → (T i a k : ℕ) → Bool
first_period jobs T i a k = eqb (at_line jobs k) i && (leb a (at_release jobs k) && ltb (at_release jobs k) (a + T))

module _ (jobs : List Job) (i T D : ℕ) (some-D : 1 ≤ D) (D-within : D ≤ T) (far : (j k : ℕ) → j < k → k < length jobs → at_line jobs j ≡ i → at_line jobs k ≡ i → (at_release jobs j + T ≤ at_release jobs k) ⊎ (at_release jobs k + T ≤ at_release jobs j)) where
  number_none : (a d : ℕ) → d < a + D → number jobs D i a d ≡ 0
  number_none a d short = sum_none (λ k. cond (here jobs D i a d k) 1 0) (length jobs) (λ k l. grind arith)

  clash : (a j k : ℕ) → j < k → k < length jobs → first_period jobs T i a j ≡ true → first_period jobs T i a k ≡ true → ⊥
  clash a j k l m e f =
      let one : (at_line jobs j ≡ i) × (a ≤ at_release jobs j) × (at_release jobs j < a + T) = grind arith in
      let two : (at_line jobs k ≡ i) × (a ≤ at_release jobs k) × (at_release jobs k < a + T) = grind arith in
      omega (arith, far j k l m one.0 two.0)

  -- within one period of its start the window holds one job at the most
  number_more : (a d : ℕ) → number jobs D i a d ≤ suc (number jobs D i (a + T) d)
  number_more a d =
      let split = sum_le (λ k. cond (here jobs D i a d k) 1 0) (λ k. cond (first_period jobs T i a k) 1 0 + cond (here jobs D i (a + T) d k) 1 0) (length jobs) (λ k l. grind arith) in
      let parts = sum_add (λ k. cond (first_period jobs T i a k) 1 0) (λ k. cond (here jobs D i (a + T) d k) 1 0) (length jobs) in
      let one = sum_one (λ k. cond (first_period jobs T i a k) 1 0) (length jobs) (λ k l. grind arith) (λ j k l m e f. clash a j k l m (grind arith) (grind arith)) in
      omega arith

  number_bound : (m a d : ℕ) → d + (T - D) < a + suc m * T → number jobs D i a d ≤ m
  number_bound zero a d l = omega (arith, number_none a d (omega arith))
  number_bound (suc m) a d l = let later = number_bound m (a + T) d (omega (arith, add-mul (suc m) 1 T)) in omega (arith, number_more a d)

module _ (rows : List Row) (jobs : List Job) (legal : Legal rows jobs) (ok : AllLawful rows) where
  timed_at : (k : ℕ) → k < length jobs → job (timed_list rows jobs) k ≡ timed rows (get_or jobs k no_job)
  timed_at k l = get_or-map (timed rows) jobs k no_job (record { release = 0; deadline = 0; cost = 0 }) l

  -- what the jobs of one line bring
  abbrev line_charge : ℕ → ℕ → ℕ → ℕ → ℕ
  line_charge a d k i = cond (eqb (at_line jobs k) i) (charge (timed_list rows jobs) a d k) 0

  line_charge_is : (a d k i : ℕ) → k < length jobs → line_charge a d k i ≡ cond (here jobs (get_or rows i no_row).deadline i a d k) (get_or jobs k no_job).cost 0
  line_charge_is a d k i l =
      let released = ap (λ j. j.release) (timed_at k l) in
      let due = ap (λ j. j.deadline) (timed_at k l) in
      let costs = ap (λ j. j.cost) (timed_at k l) in
      by_line (cases_eq (at_line jobs k) i) released due costs
    where
      by_line : (at_line jobs k ≡ i) ⊎ (at_line jobs k ≡ i → ⊥) → (job (timed_list rows jobs) k).release ≡ at_release jobs k → (job (timed_list rows jobs) k).deadline ≡ at_release jobs k + (get_or rows (at_line jobs k) no_row).deadline → (job (timed_list rows jobs) k).cost ≡ (get_or jobs k no_job).cost → line_charge a d k i ≡ cond (here jobs (get_or rows i no_row).deadline i a d k) (get_or jobs k no_job).cost 0
      by_line (inl e) released due costs = let same = ap (λ n. (get_or rows n no_row).deadline) e in grind arith
      by_line (inr other) released due costs = grind arith

  -- jobs of line i are far apart, and cost no more than the line's
  apart_on : (i j k : ℕ) → j < k → k < length jobs → at_line jobs j ≡ i → at_line jobs k ≡ i → (at_release jobs j + (get_or rows i no_row).period ≤ at_release jobs k) ⊎ (at_release jobs k + (get_or rows i no_row).period ≤ at_release jobs j)
  apart_on i j k l m e f =
      let one = ap (λ n. (get_or rows n no_row).period) e in
      let two = ap (λ n. (get_or rows n no_row).period) f in
      ⊎_elim (λ (h : at_release jobs j + (row_of rows (get_or jobs j no_job)).period ≤ at_release jobs k). inl (omega arith)) (λ (h : at_release jobs k + (row_of rows (get_or jobs k no_job)).period ≤ at_release jobs j). inr (omega arith)) (legal.apart j k l m (e ∙ sym f))

  cost_within : (a d i k : ℕ) → k < length jobs → here jobs (get_or rows i no_row).deadline i a d k ≡ true → (get_or jobs k no_job).cost ≤ (get_or rows i no_row).cost
  cost_within a d i k l e =
      let on : at_line jobs k ≡ i = grind arith in
      omega (arith, (legal.allowed k l).within, ap (λ n. (get_or rows n no_row).cost) on)

  line_load : (a d i : ℕ) → a ≤ d → i < length rows → sum (λ k. line_charge a d k i) (length jobs) ≤ work (get_or rows i no_row) (count (get_or rows i no_row) (d - a))
  line_load a d i le within =
      let row = get_or rows i no_row in
      let lawful = ok i within in
      let laws = line_laws row lawful in
      let m = count row (d - a) in
      let is = sum_same (λ k. line_charge a d k i) (λ k. cond (here jobs row.deadline i a d k) (get_or jobs k no_job).cost 0) (length jobs) (λ k l. line_charge_is a d k i l) in
      let most = sum_counted (here jobs row.deadline i a d) (λ k. (get_or jobs k no_job).cost) row.cost (length jobs) (cost_within a d i) in
      let below = counted_below row.period row.deadline lawful.0 lawful.1 (d - a) in
      let few = number_bound jobs i row.period row.deadline lawful.0 lawful.1 (apart_on i) m a d (omega arith) in
      let more = laws.work_monotone (number jobs row.deadline i a d) m few in
      omega arith

  pub window_bound : (a d : ℕ) → a ≤ d → load (timed_list rows jobs) a d ≤ demand rows (d - a)
  window_bound a d le =
      let tjobs = timed_list rows jobs in
      let same_length = length-map jobs (timed rows) in
      let by_place = load_places tjobs a d ∙ ap (sum (charge tjobs a d)) same_length in
      let by_line = sum_same (charge tjobs a d) (λ k. sum (line_charge a d k) (length rows)) (length jobs) (λ k l. sym (sum_pick (charge tjobs a d k) (at_line jobs k) (length rows) (legal.allowed k l).there)) in
      let exchanged = sum_exchange (line_charge a d) (length jobs) (length rows) in
      let lines = sum_le (λ i. sum (λ k. line_charge a d k i) (length jobs)) (λ i. work (get_or rows i no_row) (count (get_or rows i no_row) (d - a))) (length rows) (λ i l. line_load a d i le l) in
      omega (arith, demand_places rows (d - a))
