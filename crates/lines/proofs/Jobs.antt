-- What the count and the rest points of a line say of its jobs, one by one.
use Rattle.std.proofs.Common.{◌≡◌, ℕ, zero, suc, ◌*◌, ◌/◌, ◌<◌, ◌≤◌, ◌↔◌, Bool, true, false, cond, min, refl, ⊎_elim, add-mul, mul-le-mul_right, lt_of_mul-lt-mul_right, div-add-mod', nat_le, arith}
use Rattle.lines.proofs.Counts.{counted_below, counted_least, counted_within, rest_within_counted, resting_ways}
use Rattle.lines.proofs.Rests.{rests_unless}
use Rattle.lines.specs.Demand.{Lawful, count}
use Rattle.lines.specs.Jobs.{release_of, deadline_of, how_many}
use Rattle.lines.specs.Rest.{resting, deadline_after}
use Rattle.lines.specs.declared.row.Row.{Row}
use Rattle.std.proofs.lemmas.Bool.{cases_lt}

-- where just the numbers below c pass, so do just as many of those below n
how_many_step : (test : ℕ → Bool) (c n : ℕ) → ((k : ℕ) → k < c → test k ≡ true) → ((k : ℕ) → test k ≡ true → k < c) → (passes : Bool) → test n ≡ passes → how_many test n ≡ min n c → cond passes (suc (how_many test n)) (how_many test n) ≡ min (suc n) c
how_many_step test c n pass only true e so_far = omega (arith, only n e)
how_many_step test c n pass only false e so_far =
    ⊎_elim (λ (l : n < c). let passes = pass n l in absurd (grind arith)) (λ (g : c ≤ n). omega arith) (cases_lt n c)

pub how_many_below : (test : ℕ → Bool) (c : ℕ) → ((k : ℕ) → k < c → test k ≡ true) → ((k : ℕ) → test k ≡ true → k < c) → (n : ℕ) → how_many test n ≡ min n c
unfolding how_many
how_many_below test c pass only zero = omega arith
how_many_below test c pass only (suc n) =
    how_many_step test c n pass only (test n) refl (how_many_below test c pass only n)

module _ (row : Row) (ok : Lawful row) where
  counted_due : (t k : ℕ) → k < count row t → deadline_of row k ≤ t
  counted_due t k l =
      ⊎_elim (λ (early : t < deadline_of row k).
      let few : count row t ≤ k = counted_least row.period row.deadline ok.0 ok.1 t k (omega (arith, add-mul k 1 row.period)) in
      absurd (omega arith)) (λ (g : deadline_of row k ≤ t). g) (cases_lt t (deadline_of row k))

  due_counted : (t k : ℕ) → deadline_of row k ≤ t → k < count row t
  due_counted t k le =
      let below = counted_below row.period row.deadline ok.0 ok.1 t in
      let turns : suc k * row.period < suc (count row t) * row.period = omega (arith, add-mul k 1 row.period) in
      let less : suc k < suc (count row t) = lt_of_mul-lt-mul_right row.period turns in
      omega arith

  -- the jobs that are counted at t are just those that are due by t
  pub counts_due : (t k : ℕ) → (k < count row t) ↔ (deadline_of row k ≤ t)
  counts_due t k = (counted_due t k, due_counted t k)

  -- and so many there are among the first n, however many those are
  pub counts_many : (t n : ℕ) → t ≤ n → count row t ≡ how_many (λ k. nat_le (deadline_of row k) t) n
  counts_many t n le =
      let many = how_many_below (λ k. nat_le (deadline_of row k) t) (count row t) (λ k l. let due = counted_due t k l in grind arith) (λ k e. due_counted t k (grind arith)) n in
      let within = counted_within row.period row.deadline ok.0 ok.1 t in
      omega arith

  -- the first deadline after t is that of the job behind those that are counted
  pub deadline_after_first : (t k : ℕ) → (t < deadline_of row k) ↔ (deadline_after row t ≤ deadline_of row k)
  deadline_after_first t k = (
    λ late. ⊎_elim (λ (l : k < count row t). let due = counted_due t k l in absurd (omega arith)) (λ (g : count row t ≤ k). let turns = mul-le-mul_right row.period g in omega arith) (cases_lt k (count row t)),
    λ le.
        ⊎_elim (λ (l : t < deadline_of row k). l) (λ (g : deadline_of row k ≤ t).
        let more : suc k ≤ count row t = due_counted t k g in
        let turns = mul-le-mul_right row.period more in
        absurd (omega (arith, add-mul k 1 row.period, ok.0, ok.1))) (cases_lt t (deadline_of row k)),
  )

  -- a line that rests at t has no job that is released before t and due after it
  rests_clear : (t : ℕ) → resting t row ≡ true → (k : ℕ) → release_of row k < t → deadline_of row k ≤ t
  rests_clear t rests k early =
      let within = rest_within_counted row.period row.deadline ok.0 ok.1 t (resting_ways row ok t rests) in
      let turns : k * row.period < count row t * row.period = omega arith in
      counted_due t k (lt_of_mul-lt-mul_right row.period turns)

  clear_rests : (t : ℕ) → ((k : ℕ) → release_of row k < t → deadline_of row k ≤ t) → resting t row ≡ true
  clear_rests t clear =
      let split = div-add-mod' t row.period in
      rests_unless row t (λ some short. let due = clear (t / row.period) (omega arith) in omega arith)

  pub rests_clear_exactly : (t : ℕ) → (resting t row ≡ true) ↔ ((k : ℕ) → release_of row k < t → deadline_of row k ≤ t)
  rests_clear_exactly t = (rests_clear t, clear_rests t)
