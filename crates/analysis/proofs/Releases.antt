-- The witness list as it is built up: line by line at an instant, from one instant of releases to the next, and how many jobs it has.
use Rattle.std.proofs.Common.{◌≡◌, ℕ, zero, suc, ◌+◌, ◌-◌, ◌/◌, ◌%◌, ◌<◌, ◌≤◌, min, Bool, true, false, cond, List, [], ◌∷◌, ◌++◌, map, length, get_or, take, drop, sum_by, sym, refl, ap, ◌∙◌, ⊎_elim, add-zero, mod-lt, div-add-mod', zero-add, mul-one, arith}
use Rattle.analysis.proofs.Witness.{releases, before_cost, so_far_end}
use Rattle.analysis.specs.Legal.{released_at, released_before, witness}
use Rattle.lines.proofs.Every.{some_none}
use Rattle.lines.proofs.Multiples.{multiples_apart}
use Rattle.lines.specs.Demand.{Lawful, AllLawful, no_row, count, demand}
use Rattle.lines.specs.Rest.{some, divides}
use Rattle.lines.specs.declared.row.Row.{Row}
use Rattle.run.specs.declared.job.Job.{Job}
use Rattle.std.proofs.lemmas.List.{append-nil, take-append-drop, take_more, length-take-le, length-append, length-map, get_or-map}
use Rattle.std.proofs.lemmas.List.Sums.{sum_by-cons, sum_by-append}
use Rattle.std.proofs.lemmas.Bool.{cases_lt}
use native.Mathlib.Nat.{mul-mod_left}

module _ (t r : ℕ) where
  -- what two lists of lines release, one after the other
  released_both : (number : ℕ) (xs ys : List Row) → released_at number (xs ++ ys) t r ≡ released_at number xs t r ++ released_at (number + length xs) ys t r
  unfolding released_at
  released_both number [] ys = ap (λ n. released_at n ys t r) (sym (add-zero number))
  released_both number (row ∷ xs) ys =
      by_test (releases t row r) (released_both (suc number) xs ys ∙ ap (λ n. released_at (suc number) xs t r ++ released_at n ys t r) (one_on (length xs)))
    where
      one_on : (n : ℕ) → suc number + n ≡ number + suc n
      one_on n = omega arith

      here : Job
      here = record { line = number; release = r; cost = row.cost }

      by_test : (b : Bool) → released_at (suc number) (xs ++ ys) t r ≡ released_at (suc number) xs t r ++ released_at (number + suc (length xs)) ys t r → cond b (here ∷ released_at (suc number) (xs ++ ys) t r) (released_at (suc number) (xs ++ ys) t r) ≡ cond b (here ∷ released_at (suc number) xs t r) (released_at (suc number) xs t r) ++ released_at (number + suc (length xs)) ys t r
      by_test true later = ap (λ jobs. here ∷ jobs) later
      by_test false later = later

  -- one line more
  pub released_more : (rows : List Row) (n : ℕ) → n < length rows → released_at 0 (take (n + 1) rows) t r ≡ released_at 0 (take n rows) t r ++ released_at n (get_or rows n no_row ∷ []) t r
  released_more rows n l =
      let before : 0 + length (take n rows) ≡ n = zero-add _ ∙ length-take-le n rows (omega arith) in
      ap (λ xs. released_at 0 xs t r) (take_more rows n no_row l) ∙ released_both 0 (take n rows) (get_or rows n no_row ∷ []) ∙ ap (λ k. released_at 0 (take n rows) t r ++ released_at k (get_or rows n no_row ∷ []) t r) before

  -- what one line releases: a job where a period begins and the job is due in time, and else none
  module _ (number : ℕ) (row : Row) where
    pub released_here : r % row.period ≡ 0 → r + row.deadline ≤ t → record { line = number; release = r; cost = row.cost } ∷ [] ≡ released_at number (row ∷ []) t r
    unfolding released_at
    released_here begins early = let comes : releases t row r ≡ true = grind arith in rw comes refl

    pub released_nothing : (r % row.period ≡ 0 → ⊥) → [] ≡ released_at number (row ∷ []) t r
    unfolding released_at
    released_nothing not = let rests : releases t row r ≡ false = grind arith in rw rests refl

    pub released_late : t < r + row.deadline → [] ≡ released_at number (row ∷ []) t r
    unfolding released_at
    released_late late = let rests : releases t row r ≡ false = grind arith in rw rests refl

  -- some of the lines release no more than all
  pub released_fewer : (rows : List Row) (n : ℕ) → length (released_at 0 (take n rows) t r) ≤ length (released_at 0 rows t r)
  released_fewer rows n =
      let all = ap (λ xs. length (released_at 0 xs t r)) (sym (take-append-drop n rows)) ∙ ap length (released_both 0 (take n rows) (drop n rows)) in
      omega (arith, all, length-append (released_at 0 (take n rows) t r) (released_at (0 + length (take n rows)) (drop n rows) t r))

  -- nothing is released where no period begins
  released_quiet : (number : ℕ) (rows : List Row) → some (divides r) rows ≡ false → released_at number rows t r ≡ []
  unfolding released_at some
  released_quiet number [] e = refl
  released_quiet number (row ∷ rows) e =
      let none : releases t row r ≡ false = grind arith in
      let later = released_quiet (suc number) rows (grind arith) in
      rw none later

module _ (rows : List Row) (t : ℕ) where
  -- no line releases a job between two instants: the list stays
  pub before_quiet : (a b : ℕ) → a < b → ((k : ℕ) → a < k → k < b → some (divides k) rows ≡ false) → released_before rows t b ≡ released_before rows t (suc a)
  unfolding released_before
  before_quiet a zero l quiet = absurd (omega arith)
  before_quiet a (suc b) l quiet =
      let shorter = λ (h : a < b). before_quiet a b h (λ k m n. quiet k m (omega arith)) in
      ⊎_elim (λ (h : a < b). ap (λ jobs. released_before rows t b ++ jobs) (released_quiet t b 0 rows (quiet b h (omega arith))) ∙ append-nil _ ∙ shorter h) (λ (h : b ≤ a). let same : b ≡ a = omega arith in ap (λ n. released_before rows t (suc n)) same) (cases_lt a b)

  -- a longer time brings no fewer jobs
  before_longer : (a b : ℕ) → a ≤ b → length (released_before rows t a) ≤ length (released_before rows t b)
  unfolding released_before
  before_longer a zero le = let same : a ≡ 0 = omega arith in omega (arith, ap (λ n. length (released_before rows t n)) same)
  before_longer a (suc b) le =
      let shorter = λ (h : a ≤ b). before_longer a b h in
      ⊎_elim (λ (h : a < suc b). omega (arith, shorter (omega arith), length-append (released_before rows t b) (released_at 0 rows t b))) (λ (h : suc b ≤ a). let same : a ≡ suc b = omega arith in omega (arith, ap (λ n. length (released_before rows t n)) same)) (cases_lt a (suc b))

  -- what is released at an instant has its place in the witness list
  pub released_fits : (r : ℕ) → r < t → length (released_before rows t r) + length (released_at 0 rows t r) ≤ length (witness rows t)
  unfolding released_before
  released_fits r l = omega (arith, before_longer (suc r) t l, length-append (released_before rows t r) (released_at 0 rows t r))

-- the next period begins behind an instant, and none begins before it
module _ (period after : ℕ) (some-period : 1 ≤ period) where
  pub next_period : after < after + (period - after % period)
  next_period = omega (arith, mod-lt after {m = period} some-period)

  pub none_before_next : (k : ℕ) → after < k → k < after + (period - after % period) → k % period ≡ 0 → ⊥
  none_before_next k l m whole =
      let turns = after - after % period in
      let split = div-add-mod' after period in
      let start : turns % period ≡ 0 = ap (λ x. x % period) (omega arith) ∙ mul-mod_left (after / period) period in
      omega (arith, multiples_apart period turns k start whole (omega arith), mod-lt after {m = period} some-period)

-- none of the first n lines releases a job between two instants
abbrev pub Unreleased : List Row → (n after until : ℕ) → Type 0
Unreleased rows n after until = (j k : ℕ) → j < n → after < k → k < until → divides k (get_or rows j no_row) ≡ false

module _ (rows : List Row) (after : ℕ) where
  pub unreleased_more : (n until : ℕ) → Lawful (get_or rows n no_row) → Unreleased rows n after until → Unreleased rows (n + 1) after (min until (after + ((get_or rows n no_row).period - after % (get_or rows n no_row).period)))
  unreleased_more n until ok none j k l m earlier =
      ⊎_elim (λ (h : j < n). none j k h m (omega arith)) (λ (h : n ≤ j). let same : j ≡ n = omega arith in ap (λ i. divides k (get_or rows i no_row)) same ∙ last) (cases_lt j n)
    where
      last : divides k (get_or rows n no_row) ≡ false
      last = let off = none_before_next (get_or rows n no_row).period after (omega arith) k m (omega arith) in grind arith

  pub unreleased_all : (n until : ℕ) → length rows ≤ n → Unreleased rows n after until → (k : ℕ) → after < k → k < until → some (divides k) rows ≡ false
  unreleased_all n until all none k l m = some_none (divides k) rows (λ j there. none j k (omega arith) l m)

-- a line at cost 1: its work is its count
abbrev at_one : Row → Row
at_one row = record { period = row.period; deadline = row.deadline; cost = 1 }

at_one_lawful : (rows : List Row) → AllLawful rows → AllLawful (map at_one rows)
at_one_lawful rows ok i l =
    let there : i < length rows = omega (arith, length-map rows at_one) in
    let lawful = ok i there in
    rw (get_or-map at_one rows i no_row no_row there) (lawful.0, lawful.1, lawful.2, omega arith, omega arith)

at_one_released : (number : ℕ) (rows : List Row) (t r : ℕ) → sum_by (λ job. job.cost) (released_at number (map at_one rows) t r) ≡ length (released_at number rows t r)
unfolding released_at
at_one_released number [] t r = refl
at_one_released number (row ∷ rows) t r = by_test (releases t row r) (at_one_released (suc number) rows t r)
  where
    by_test : (b : Bool) → sum_by (λ job. job.cost) (released_at (suc number) (map at_one rows) t r) ≡ length (released_at (suc number) rows t r) → sum_by (λ job. job.cost) (cond b (record { line = number; release = r; cost = 1 } ∷ released_at (suc number) (map at_one rows) t r) (released_at (suc number) (map at_one rows) t r)) ≡ length (cond b (record { line = number; release = r; cost = row.cost } ∷ released_at (suc number) rows t r) (released_at (suc number) rows t r))
    by_test true later = omega (arith, sum_by-cons (λ (job : Job). job.cost) (record { line = number; release = r; cost = 1 }) (released_at (suc number) (map at_one rows) t r))
    by_test false later = later

at_one_before : (rows : List Row) (t n : ℕ) → sum_by (λ job. job.cost) (released_before (map at_one rows) t n) ≡ length (released_before rows t n)
unfolding released_before
at_one_before rows t zero = refl
at_one_before rows t (suc n) =
    let below = at_one_before rows t n in
    omega (arith, sum_by-append (λ (job : Job). job.cost) (released_before (map at_one rows) t n) (released_at 0 (map at_one rows) t n), at_one_released 0 rows t n, length-append (released_before rows t n) (released_at 0 rows t n))

at_one_demand : (rows : List Row) (t : ℕ) → demand (map at_one rows) t ≡ sum_by (λ row. count row t) rows
unfolding demand
at_one_demand [] t = refl
at_one_demand (row ∷ rows) t =
    let later = at_one_demand rows t in
    omega (arith, mul-one (count row t), sum_by-cons (λ (x : Row). count x t) row rows)

-- the witness list has as many jobs as the lines have due by t
pub witness_length : (rows : List Row) (t : ℕ) → AllLawful rows → length (witness rows t) ≡ sum_by (λ row. count row t) rows
witness_length rows t ok =
    let lawful = at_one_lawful rows ok in
    sym (at_one_before rows t t) ∙ before_cost (map at_one rows) t lawful t ∙ so_far_end t (map at_one rows) lawful ∙ at_one_demand rows t
