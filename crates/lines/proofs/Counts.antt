-- Counts of a line through one quotient: they are monotone and split at rest points.
use Rattle.std.proofs.Common.{◌≡◌, ℕ, suc, ◌+◌, ◌-◌, ◌*◌, ◌/◌, ◌%◌, ◌<◌, ◌≤◌, true, false, ◌⊎◌, sym, ap, ◌∙◌, ⊎_elim, mul-le-mul, mul-le-mul_right, mul_assoc, div-lt_iff_lt-mul, add-mul, lt_of_mul-lt-mul_right, div-add-mod', zero-mul, arith}
use Rattle.lines.specs.Demand.{Lawful, counted, count}
use Rattle.lines.specs.Laws.{LineLaws}
use Rattle.lines.specs.Rest.{resting, due}
use Rattle.lines.specs.declared.row.Row.{Row}
use Rattle.std.proofs.lemmas.Bool.{cases_lt}
use lib.Arith.{digits_mod}
use native.Mathlib.Nat.{div-eq_of_lt, add-div_right, lt-div-mul-add, mul-mod_left}

module _ (T D : ℕ) (some : 1 ≤ D) (within : D ≤ T) where
  -- the count as one quotient
  pub counted_is : (t : ℕ) → counted T D t ≡ (t + (T - D)) / T
  counted_is t =
      ⊎_elim (λ (l : t < D). let none : (t + (T - D)) / T ≡ 0 = div-eq_of_lt (omega arith) in grind arith) (λ (g : D ≤ t).
      let same : t + (T - D) ≡ (t - D) + T = omega arith in
      let more : (t + (T - D)) / T ≡ (t - D) / T + 1 = ap (λ x. x / T) same ∙ add-div_right (t - D) (omega arith) in
      grind arith) (cases_lt t D)

  -- n jobs are counted exactly from the deadline of the n-th on
  pub counted_below : (t : ℕ) → t + (T - D) < suc (counted T D t) * T
  counted_below t =
      let over = lt-div-mul-add {a = t + (T - D)} {b = T} (omega arith) in
      omega (arith, ap (λ x. x * T) (counted_is t), add-mul (counted T D t) 1 T)

  pub counted_least : (t n : ℕ) → t + (T - D) < suc n * T → counted T D t ≤ n
  counted_least t n l =
      let below : (t + (T - D)) / T < suc n = (div-lt_iff_lt-mul {k = T} {x = t + (T - D)} {y = suc n} (omega arith)).1 l in
      omega (arith, counted_is t)

  -- no more jobs fall due than instants have come
  pub counted_within : (t : ℕ) → counted T D t ≤ t
  counted_within t =
      let most : t * 1 ≤ t * T = mul-le-mul (omega arith) (omega arith) in
      counted_least t t (omega (arith, add-mul t 1 T))

  pub counted_monotone : (t u : ℕ) → t ≤ u → counted T D t ≤ counted T D u
  counted_monotone t u le = counted_least t (counted T D u) (omega (arith, counted_below u))

  -- past the periods of the jobs that are due by r, r is that far into a period
  covered : (r : ℕ) → (counted T D r * T < r → r % T ≡ r - counted T D r * T)
  covered r l =
      let q = counted T D r in
      let below = counted_below r in
      let at : r ≡ q * T + (r - q * T) = omega arith in
      let small : r - q * T < T = omega (arith, add-mul q 1 T) in
      ap (λ x. x % T) at ∙ digits_mod q small

  -- a rest point is covered by the periods of the jobs that are due by then
  pub rest_within_counted : (r : ℕ) → ((r % T ≡ 0) ⊎ (D ≤ r % T)) → r ≤ counted T D r * T
  rest_within_counted r rests =
      let below = counted_below r in
      ⊎_elim (λ (l : counted T D r * T < r).
      let left = covered r l in
      absurd (⊎_elim (λ (z : r % T ≡ 0). omega arith) (λ (d : D ≤ r % T). omega (arith, add-mul (counted T D r) 1 T)) rests)) (λ (g : r ≤ counted T D r * T). g) (cases_lt (counted T D r * T) r)

  -- the count splits at a rest point
  pub counted_splits : (r t : ℕ) → ((r % T ≡ 0) ⊎ (D ≤ r % T)) → r ≤ t → counted T D t ≤ counted T D r + counted T D (t - r)
  counted_splits r t rests le =
      let before = rest_within_counted r rests in
      let after = counted_below (t - r) in
      counted_least t (counted T D r + counted T D (t - r)) (omega (arith, add-mul (counted T D r) (suc (counted T D (t - r))) T))

module _ (row : Row) (ok : Lawful row) where
  pub resting_ways : (r : ℕ) → resting r row ≡ true → (r % row.period ≡ 0) ⊎ (row.deadline ≤ r % row.period)
  resting_ways r e = grind arith

  due_turns : (t : ℕ) → due t row ≡ true → (k : ℕ) × (t ≡ k * row.period + row.deadline)
  due_turns t e =
      let late : row.deadline ≤ t = grind arith in
      let whole : (t - row.deadline) % row.period ≡ 0 = grind arith in
      let split = div-add-mod' (t - row.deadline) row.period in
      ((t - row.deadline) / row.period, omega arith)

  turns_due : (k : ℕ) → due (k * row.period + row.deadline) row ≡ true
  turns_due k =
      let t = k * row.period + row.deadline in
      let late : row.deadline ≤ t = omega arith in
      let same : t - row.deadline ≡ k * row.period = omega arith in
      let whole : (t - row.deadline) % row.period ≡ 0 = ap (λ x. x % row.period) same ∙ mul-mod_left k row.period in
      grind arith

  pub line_laws : LineLaws row
  line_laws = record {
    count_monotone = counted_monotone row.period row.deadline ok.0 ok.1;
    count_splits = λ r t rests le. counted_splits row.period row.deadline ok.0 ok.1 r t (resting_ways r rests) le;
    due_is = due_turns;
    due_at = turns_due;
    work_none = zero-mul row.cost;
    work_monotone = λ m n le. mul-le-mul_right row.cost le;
    work_splits = λ m n. omega (arith, add-mul m n row.cost);
    work_scales = λ q n. sym (mul_assoc q n row.cost);
  }

-- an instant at which no job falls due adds none to the count
pub counted_step : (row : Row) → Lawful row → (t : ℕ) → due (suc t) row ≡ false → count row (suc t) ≡ count row t
counted_step row ok t quiet =
    let T = row.period in
    let D = row.deadline in
    let n = counted T D t in
    let below = counted_below T D ok.0 ok.1 t in
    let no-fewer = counted_monotone T D ok.0 ok.1 t (suc t) (omega arith) in
    ⊎_elim (λ (l : suc t + (T - D) < suc n * T). let no_more = counted_least T D ok.0 ok.1 (suc t) n l in omega arith) (λ (g : suc n * T ≤ suc t + (T - D)).
    let at : suc t ≡ n * T + D = omega (arith, add-mul n 1 T) in
    let is-due = turns_due row ok n in
    let same = ap (λ x. due x row) at in
    absurd (grind arith)) (cases_lt (suc t + (T - D)) (suc n * T))

-- and one at which a job falls due adds one
pub counted_up : (row : Row) → Lawful row → (t : ℕ) → due (suc t) row ≡ true → count row (suc t) ≡ suc (count row t)
counted_up row ok t is-due =
    let T = row.period in
    let D = row.deadline in
    let turn = due_turns row ok (suc t) is-due in
    let k = turn.0 in
    let at : suc t ≡ k * T + D = turn.1 in
    let above = counted_below T D ok.0 ok.1 (suc t) in
    let below = counted_below T D ok.0 ok.1 t in
    let before : counted T D t ≤ k = counted_least T D ok.0 ok.1 t k (omega (arith, add-mul k 1 T)) in
    let then : counted T D (suc t) ≤ suc k = counted_least T D ok.0 ok.1 (suc t) (suc k) (omega (arith, add-mul k 1 T, add-mul (suc k) 1 T)) in
    let wide : suc k * T < suc (counted T D (suc t)) * T = omega (arith, add-mul k 1 T) in
    let no-fewer : suc k < suc (counted T D (suc t)) = lt_of_mul-lt-mul_right T wide in
    let near : k * T < suc (counted T D t) * T = omega (arith, add-mul k 1 T) in
    let so-many : k < suc (counted T D t) = lt_of_mul-lt-mul_right T near in
    omega arith
