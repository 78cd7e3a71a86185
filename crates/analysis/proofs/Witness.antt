-- The witness list: it is legal, and its load up to t is the demand at t.
use Rattle.std.proofs.Common.{◌≡◌, ℕ, zero, suc, ◌+◌, ◌-◌, ◌%◌, ◌<◌, ◌≤◌, min, Bool, true, false, cond, ◌&&◌, eqb, leb, ◌⊎◌, List, [], ◌∷◌, ◌++◌, length, get_or, sum_by, sym, refl, ap, ◌∙◌, inl, inr, add-zero, add-mul, zero-add, arith}
use Rattle.analysis.specs.Legal.{row_of, Allowed, Apart, no_job, Legal, released_at, released_before, witness}
use Rattle.edf.specs.Jobs as edf
use Rattle.edf.specs.Load.{load}
use Rattle.lines.proofs.Counts.{line_laws, counted_step, counted_up}
use Rattle.lines.proofs.Multiples.{multiples_apart}
use Rattle.lines.specs.Demand.{Lawful, AllLawful, no_row, count, work, demand}
use Rattle.lines.specs.Rest.{due}
use Rattle.lines.specs.declared.row.Row.{Row}
use Rattle.run.specs.Timed.{timed, timed_list}
use Rattle.run.specs.declared.job.Job.{Job}
use Rattle.std.proofs.ByRecursion.{All-append, All-get_or, All-weaker}
use Rattle.std.proofs.lemmas.List.Sums.{sum_by-cons, sum_by-append}
use Rattle.std.proofs.lemmas.Bool.{cases_lt, cases_Bool}
use Rattle.std.specs.List.{AllByRecursion}

-- any two of a list, the earlier first
Pairs : (Job → Job → Type 0) → List Job → Type 0
Pairs R [] = Unit {0}
Pairs R (x ∷ xs) = AllByRecursion (R x) xs × Pairs R xs

pairs_append : (R : Job → Job → Type 0) (xs ys : List Job) → Pairs R xs → Pairs R ys → AllByRecursion (λ x. AllByRecursion (R x) ys) xs → Pairs R (xs ++ ys)
unfolding Pairs
pairs_append R [] ys h k across = k
pairs_append R (x ∷ xs) ys h k across = (All-append (R x) xs ys h.0 across.0, pairs_append R xs ys h.1 k across.1)

pairs_places : (R : Job → Job → Type 0) (xs : List Job) → Pairs R xs → (j k : ℕ) → j < k → k < length xs → R (get_or xs j no_job) (get_or xs k no_job)
unfolding Pairs
pairs_places R [] h j k l m = absurd (omega arith)
pairs_places R (x ∷ xs) h j zero l m = absurd (omega arith)
pairs_places R (x ∷ xs) h zero (suc k) l m = All-get_or (R x) xs k no_job (omega arith) h.0
pairs_places R (x ∷ xs) h (suc j) (suc k) l m = pairs_places R xs h.1 j k (omega arith) (omega arith)

-- a job of the lines in their own rhythm, at full cost, that is due by t
record Comes (rows : List Row) (t : ℕ) (job : Job) : Type 0 where
  there : job.line < length rows
  rhythm : job.release % (row_of rows job).period ≡ 0
  in_time : job.release + (row_of rows job).deadline ≤ t
  full : job.cost ≡ (row_of rows job).cost

-- the lines from `number` on, as the last of all
abbrev Last : List Row → ℕ → List Row → Type 0
Last all number rows = (number + length rows ≤ length all) × ((i : ℕ) → i < length rows → get_or all (number + i) no_row ≡ get_or rows i no_row)

last_rest : (all : List Row) (number : ℕ) (row : Row) (rows : List Row) → Last all number (row ∷ rows) → Last all (suc number) rows
last_rest all number row rows h = (omega (arith, h.0), λ i l. ap (λ n. get_or all n no_row) (one_on i) ∙ h.1 (suc i) (omega arith))
  where
    one_on : (i : ℕ) → suc number + i ≡ number + suc i
    one_on i = omega arith

last_here : (all : List Row) (number : ℕ) (row : Row) (rows : List Row) → Last all number (row ∷ rows) → get_or all number no_row ≡ row
last_here all number row rows h = ap (λ n. get_or all n no_row) (sym (add-zero number)) ∙ h.1 0 (omega arith)

last_all : (rows : List Row) → Last rows 0 rows
last_all rows = (omega arith, λ i l. ap (λ n. get_or rows n no_row) (zero-add i))

-- what the line numbered `number` releases at r, if anything
abbrev pub releases : ℕ → Row → ℕ → Bool
releases t row r = eqb (r % row.period) 0 && leb (r + row.deadline) t

module _ (all : List Row) (t r : ℕ) where
  -- a job that is released at r on a line from `number` on
  abbrev From : ℕ → Job → Type 0
  From number job = Comes all t job × (number ≤ job.line) × (job.release ≡ r)

  from_next : (number : ℕ) (jobs : List Job) → AllByRecursion (From (suc number)) jobs → AllByRecursion (From number) jobs
  from_next number jobs h = All-weaker (From (suc number)) (From number) (λ job k. (k.0, omega (arith, k.1), k.2)) jobs h

  first_comes : (number : ℕ) (row : Row) → number < length all → get_or all number no_row ≡ row → releases t row r ≡ true → From number (record { line = number; release = r; cost = row.cost })
  first_comes number row there is e =
      let period = ap (λ x. x.period) is in
      let deadline = ap (λ x. x.deadline) is in
      let turn : r % row.period ≡ 0 = grind arith in
      let early : r + row.deadline ≤ t = grind arith in
      (record { there = there; rhythm = ap (λ x. r % x) period ∙ turn; in_time = omega arith; full = sym (ap (λ x. x.cost) is) }, omega arith, refl)

  first_apart : (number : ℕ) (row : Row) (jobs : List Job) → AllByRecursion (From (suc number)) jobs → AllByRecursion (Apart all (record { line = number; release = r; cost = row.cost })) jobs
  first_apart number row jobs h =
      All-weaker (From (suc number)) (Apart all (record { line = number; release = r; cost = row.cost })) (λ job k same. absurd (omega (arith, k.1))) jobs h

  released_comes : (number : ℕ) (rows : List Row) → Last all number rows → AllByRecursion (From number) (released_at number rows t r)
  unfolding released_at
  released_comes number [] h = tt
  released_comes number (row ∷ rows) h =
      by_test (releases t row r) refl (from_next number (released_at (suc number) rows t r) (released_comes (suc number) rows (last_rest all number row rows h)))
    where
      by_test : (b : Bool) → releases t row r ≡ b → AllByRecursion (From number) (released_at (suc number) rows t r) → AllByRecursion (From number) (cond b (record { line = number; release = r; cost = row.cost } ∷ released_at (suc number) rows t r) (released_at (suc number) rows t r))
      by_test true e later = (first_comes number row (omega (arith, h.0)) (last_here all number row rows h) e, later)
      by_test false e later = later

  released_pairs : (number : ℕ) (rows : List Row) → Last all number rows → Pairs (Apart all) (released_at number rows t r)
  unfolding released_at Pairs
  released_pairs number [] h = tt
  released_pairs number (row ∷ rows) h =
      by_test (releases t row r) (released_comes (suc number) rows (last_rest all number row rows h)) (released_pairs (suc number) rows (last_rest all number row rows h))
    where
      by_test : (b : Bool) → AllByRecursion (From (suc number)) (released_at (suc number) rows t r) → Pairs (Apart all) (released_at (suc number) rows t r) → Pairs (Apart all) (cond b (record { line = number; release = r; cost = row.cost } ∷ released_at (suc number) rows t r) (released_at (suc number) rows t r))
      by_test true come later = (first_apart number row (released_at (suc number) rows t r) come, later)
      by_test false come later = later

  -- their costs together
  released_cost : (number : ℕ) (rows : List Row) → sum_by (λ job. job.cost) (released_at number rows t r) ≡ sum_by (λ row. cond (releases t row r) row.cost 0) rows
  unfolding released_at
  released_cost number [] = refl
  released_cost number (row ∷ rows) =
      by_test (releases t row r) (released_cost (suc number) rows) ∙ sym (sum_by-cons (λ x. cond (releases t x r) x.cost 0) row rows)
    where
      by_test : (b : Bool) → sum_by (λ job. job.cost) (released_at (suc number) rows t r) ≡ sum_by (λ x. cond (releases t x r) x.cost 0) rows → sum_by (λ job. job.cost) (cond b (record { line = number; release = r; cost = row.cost } ∷ released_at (suc number) rows t r) (released_at (suc number) rows t r)) ≡ cond b row.cost 0 + sum_by (λ x. cond (releases t x r) x.cost 0) rows
      by_test true below = sum_by-cons (λ job. job.cost) (record { line = number; release = r; cost = row.cost }) (released_at (suc number) rows t r) ∙ ap (λ x. row.cost + x) below
      by_test false below = below ∙ sym (zero-add _)

module _ (rows : List Row) (t : ℕ) (ok : AllLawful rows) where
  -- a job that is released before n
  abbrev Before : ℕ → Job → Type 0
  Before n job = Comes rows t job × (job.release < n)

  before_comes : (n : ℕ) → AllByRecursion (Before n) (released_before rows t n)
  unfolding released_before
  before_comes zero = tt
  before_comes (suc n) =
      All-append (Before (suc n)) (released_before rows t n) (released_at 0 rows t n) (All-weaker (Before n) (Before (suc n)) (λ job k. (k.0, omega (arith, k.1))) (released_before rows t n) (before_comes n)) (All-weaker (From rows t n 0) (Before (suc n)) (λ job k. (k.0, omega (arith, k.2))) (released_at 0 rows t n) (released_comes rows t n 0 rows (last_all rows)))

  -- an earlier job of the same line is a whole number of periods earlier
  earlier_apart : (n : ℕ) (j k : Job) → Before n j → From rows t n 0 k → Apart rows j k
  earlier_apart n j k h i same =
      let period : (row_of rows j).period ≡ (row_of rows k).period = ap (λ x. (get_or rows x no_row).period) same in
      let rhythm : k.release % (row_of rows j).period ≡ 0 = ap (λ x. k.release % x) period ∙ i.0.rhythm in
      inl (multiples_apart (row_of rows j).period j.release k.release h.0.rhythm rhythm (omega (arith, h.1, i.2)))

  before_pairs : (n : ℕ) → Pairs (Apart rows) (released_before rows t n)
  unfolding released_before Pairs
  before_pairs zero = tt
  before_pairs (suc n) =
      let now = released_comes rows t n 0 rows (last_all rows) in
      pairs_append (Apart rows) (released_before rows t n) (released_at 0 rows t n) (before_pairs n) (released_pairs rows t n 0 rows (last_all rows)) (All-weaker (Before n) (λ j. AllByRecursion (Apart rows j) (released_at 0 rows t n)) (λ j h. All-weaker (From rows t n 0) (Apart rows j) (λ k i. earlier_apart n j k h i) (released_at 0 rows t n) now) (released_before rows t n) (before_comes n))

  comes_allowed : (job : Job) → Comes rows t job → Allowed rows job
  comes_allowed job h = let lawful = ok job.line h.there in record { there = h.there; some = omega (arith, h.full, lawful.3); within = omega (arith, h.full) }

  pub witness_legal : Legal rows (witness rows t)
  witness_legal = record {
    allowed = λ k l. comes_allowed _ (All-get_or (Before t) (witness rows t) k no_job l (before_comes t)).0;
    apart = pairs_places (Apart rows) (witness rows t) (before_pairs t);
  }

-- the count of one line by n: jobs that are released before n and due by t
abbrev so_far : ℕ → ℕ → Row → ℕ
so_far t n row = count row (min t (n + (row.deadline - 1)))

-- one job more costs the line's cost more
work_one_more : (row : Row) (n : ℕ) → work row (suc n) ≡ work row n + row.cost
work_one_more row n = omega (arith, add-mul n 1 row.cost)

so_far_next : (t n : ℕ) (row : Row) → Lawful row → work row (so_far t (suc n) row) ≡ work row (so_far t n row) + cond (releases t row n) row.cost 0
so_far_next t n row ok = by_end (cases_lt t (n + row.deadline))
  where
    u : ℕ
    u = n + (row.deadline - 1)

    in_time : n + row.deadline ≤ t → min t (suc n + (row.deadline - 1)) ≡ suc u
    in_time early = omega arith

    before : n + row.deadline ≤ t → min t (n + (row.deadline - 1)) ≡ u
    before early = omega arith

    behind : suc u - row.deadline ≡ n
    behind = omega arith

    at_end : t < n + row.deadline → work row (so_far t (suc n) row) ≡ work row (so_far t n row) + cond (releases t row n) row.cost 0
    at_end late =
        let one : min t (suc n + (row.deadline - 1)) ≡ t = omega arith in
        let two : min t (n + (row.deadline - 1)) ≡ t = omega arith in
        let none : releases t row n ≡ false = grind arith in
        let first = ap (λ x. work row (count row x)) one in
        let second = ap (λ x. work row (count row x)) two in
        let nothing = ap (λ b. cond b row.cost 0) none in
        omega arith

    by_turn : n + row.deadline ≤ t → (eqb (n % row.period) 0 ≡ true) ⊎ (eqb (n % row.period) 0 ≡ false) → work row (so_far t (suc n) row) ≡ work row (so_far t n row) + cond (releases t row n) row.cost 0
    by_turn early (inl turn) =
        let one = ap (λ x. work row (count row x)) (in_time early) in
        let two = ap (λ x. work row (count row x)) (before early) in
        let falls : due (suc u) row ≡ true = let rest = ap (λ x. x % row.period) behind in grind arith in
        let more = ap (work row) (counted_up row ok u falls) in
        let yields : releases t row n ≡ true = grind arith in
        let costs = ap (λ b. cond b row.cost 0) yields in
        omega (arith, work_one_more row (count row u))
    by_turn early (inr off) =
        let one = ap (λ x. work row (count row x)) (in_time early) in
        let two = ap (λ x. work row (count row x)) (before early) in
        let quiet : due (suc u) row ≡ false = let rest = ap (λ x. x % row.period) behind in grind arith in
        let same = ap (work row) (counted_step row ok u quiet) in
        let yields : releases t row n ≡ false = grind arith in
        let costs = ap (λ b. cond b row.cost 0) yields in
        omega arith

    by_end : (t < n + row.deadline) ⊎ (n + row.deadline ≤ t) → work row (so_far t (suc n) row) ≡ work row (so_far t n row) + cond (releases t row n) row.cost 0
    by_end (inl late) = at_end late
    by_end (inr early) = by_turn early (cases_Bool (eqb (n % row.period) 0))

-- all lines so far
so_far_all : (t n : ℕ) (rows : List Row) → AllLawful rows → sum_by (λ row. work row (so_far t (suc n) row)) rows ≡ sum_by (λ row. work row (so_far t n row)) rows + sum_by (λ row. cond (releases t row n) row.cost 0) rows
so_far_all t n [] ok = refl
so_far_all t n (row ∷ rows) ok =
    let below = so_far_all t n rows (λ i l. ok (suc i) (omega arith)) in
    omega (arith, so_far_next t n row (ok 0 (omega arith)), sum_by-cons (λ x. work x (so_far t (suc n) x)) row rows, sum_by-cons (λ x. work x (so_far t n x)) row rows, sum_by-cons (λ x. cond (releases t x n) x.cost 0) row rows)

so_far_none : (t : ℕ) (rows : List Row) → AllLawful rows → sum_by (λ row. work row (so_far t 0 row)) rows ≡ 0
so_far_none t [] ok = refl
so_far_none t (row ∷ rows) ok =
    let lawful = ok 0 (omega arith) in
    let below = so_far_none t rows (λ i l. ok (suc i) (omega arith)) in
    let early : min t (0 + (row.deadline - 1)) < row.deadline = omega arith in
    let none : so_far t 0 row ≡ 0 = grind arith in
    omega (arith, ap (work row) none, (line_laws row lawful).work_none, sum_by-cons (λ x. work x (so_far t 0 x)) row rows)

pub so_far_end : (t : ℕ) (rows : List Row) → AllLawful rows → sum_by (λ row. work row (so_far t t row)) rows ≡ demand rows t
unfolding demand
so_far_end t [] ok = refl
so_far_end t (row ∷ rows) ok =
    let lawful = ok 0 (omega arith) in
    let below = so_far_end t rows (λ i l. ok (suc i) (omega arith)) in
    let whole : min t (t + (row.deadline - 1)) ≡ t = omega arith in
    omega (arith, ap (λ x. work row (count row x)) whole, sum_by-cons (λ x. work x (so_far t t x)) row rows)

module _ (rows : List Row) (t : ℕ) (ok : AllLawful rows) where
  pub before_cost : (n : ℕ) → sum_by (λ job. job.cost) (released_before rows t n) ≡ sum_by (λ row. work row (so_far t n row)) rows
  unfolding released_before
  before_cost zero = sym (so_far_none t rows ok)
  before_cost (suc n) =
      let below = before_cost n in
      omega (arith, sum_by-append (λ job. job.cost) (released_before rows t n) (released_at 0 rows t n), released_cost rows t n 0 rows, so_far_all t n rows ok)

  inside_load : (jobs : List Job) → AllByRecursion (Comes rows t) jobs → load (timed_list rows jobs) 0 t ≡ sum_by (λ job. job.cost) jobs
  unfolding load
  inside_load [] h = refl
  inside_load (job ∷ jobs) h =
      let below = inside_load jobs h.1 in
      let due_by = h.0.in_time in
      let counts : cond (leb 0 job.release && leb (job.release + (row_of rows job).deadline) t) job.cost 0 ≡ job.cost = grind arith in
      omega (arith, sum_by-cons (λ (j : edf.Job). cond (leb 0 j.release && leb j.deadline t) j.cost 0) (timed rows job) (timed_list rows jobs), sum_by-cons (λ (j : Job). j.cost) job jobs)

  pub witness_load : load (timed_list rows (witness rows t)) 0 t ≡ demand rows t
  witness_load =
      inside_load (witness rows t) (All-weaker (Before rows t ok t) (Comes rows t) (λ job h. h.0) (witness rows t) (before_comes rows t ok t)) ∙ before_cost t ∙ so_far_end t rows ok
