-- The busy window: where a job is late at d under the law, some window that ends at d is overloaded. One induction on the instant carries the start of the window.
use Rattle.std.proofs.Common.{◌≡◌, ℕ, zero, suc, ◌+◌, ◌<◌, ◌≤◌, Bool, true, false, leb, ◌⊎◌, List, length, refl, inl, inr, arith}
use Rattle.edf.proofs.DoubleCount.{marked_service, work, charge, load_places, work_idle, work_marked}
use Rattle.edf.proofs.Law.{given_or_not, service_within}
use Rattle.edf.proofs.Service.{service_grows, service_keeps, turn_cases}
use Rattle.edf.proofs.Sums.{sum_lt, sum_add}
use Rattle.edf.specs.Edf.{Pending, First, Law, Follows}
use Rattle.edf.specs.Jobs.{Job, job}
use Rattle.edf.specs.Load.{Overloaded}
use Rattle.edf.specs.Lateness.{Late}
use Rattle.edf.specs.Schedule.{idle, serves, Schedule, Given, service}
use Rattle.edf.specs.Theorems.{BusyWindow}
use Rattle.std.proofs.lemmas.Bool.{cases_Bool, leb-false}
use Rattle.supply.specs.Meaning.{Counting}

-- place k is due by d
abbrev due : List Job → ℕ → ℕ → Bool
due jobs d k = leb (job jobs k).deadline d

-- the slots below t that went to places that are due by d
abbrev due_work : List Job → Schedule → ℕ → ℕ → ℕ
due_work jobs σ d t = work σ (due jobs d) (length jobs) t

-- The window from a is busy up to t: what is due by d and was released before a is finished at a, and every given slot since a went to a job that is due by d.
record Busy (g : ℕ → ℕ) (jobs : List Job) (σ : Schedule) (d a t : ℕ) : Type 0 where
  before : a ≤ t
  finished : (k : ℕ) → k < length jobs → (job jobs k).deadline ≤ d → (job jobs k).release < a → (job jobs k).cost ≤ service σ k a
  used : g t + due_work jobs σ d a ≡ g a + due_work jobs σ d t

module _ (g : ℕ → ℕ) (c : Counting g) (jobs : List Job) (σ : Schedule) (d : ℕ) where
  -- a new window begins after slot t where no job that is due by d is pending at it
  begins : (t : ℕ) → ((k : ℕ) → Pending jobs σ t k → d < (job jobs k).deadline) → Busy g jobs σ d (suc t) (suc t)
  begins t later = record { before = omega arith; finished = finished; used = refl }
    where
      finished : (k : ℕ) → k < length jobs → (job jobs k).deadline ≤ d → (job jobs k).release < suc t → (job jobs k).cost ≤ service σ k (suc t)
      finished k there by released =
          let done : service σ k t < (job jobs k).cost → ⊥ = λ un. omega (arith, later k (record { there = there; released = omega arith; unfinished = un })) in
          omega (arith, service_keeps σ k t)

  -- the window goes on where slot t adds as much to the work on due jobs as to the given slots
  goes_on : (a t : ℕ) → Busy g jobs σ d a t → g (suc t) + due_work jobs σ d t ≡ g t + due_work jobs σ d (suc t) → Busy g jobs σ d a (suc t)
  goes_on a t busy step =
      record { before = omega (arith, busy.before); finished = busy.finished; used = omega (arith, busy.used) }

  -- a given slot that serves a due job lets the window go on, and one that serves a later job begins a new one
  after_served : (a t k : ℕ) → Given g t → σ t ≡ serves k → First jobs σ t k → Busy g jobs σ d a t → (due jobs d k ≡ true) ⊎ (due jobs d k ≡ false) → (b : ℕ) × Busy g jobs σ d b (suc t)
  after_served a t k given e first busy (inl by) =
      (a, goes_on a t busy (omega (arith, work_marked σ (due jobs d) (length jobs) t k e first.pending.there by)))
  after_served a t k given e first busy (inr later) =
      (suc t, begins t (λ j p. omega (arith, leb-false (job jobs k).deadline d later, (first.before j p).earlier)))

  -- a given slot that serves none begins a new one
  after_given : (a t : ℕ) → Given g t → Law g jobs σ t → Busy g jobs σ d a t → (σ t ≡ idle) ⊎ ((k : ℕ) × (σ t ≡ serves k)) → (b : ℕ) × Busy g jobs σ d b (suc t)
  after_given a t given law busy (inl e) = (suc t, begins t (λ k p. absurd (law.none given e k p)))
  after_given a t given law busy (inr (k, e)) = after_served a t k given e (law.first given k e) busy (cases_Bool (due jobs d k))

  -- a slot that is not given lets the window go on
  after_slot : (a t : ℕ) → Law g jobs σ t → Busy g jobs σ d a t → Given g t ⊎ (g (suc t) ≡ g t) → (b : ℕ) × Busy g jobs σ d b (suc t)
  after_slot a t law busy (inl given) = after_given a t given law busy (turn_cases (σ t))
  after_slot a t law busy (inr same) =
      (a, goes_on a t busy (omega (arith, work_idle σ (due jobs d) (length jobs) t (law.not_given (omega arith)))))

  busy : (t : ℕ) → Follows g jobs σ t → (a : ℕ) × Busy g jobs σ d a t
  busy zero follows = (0, record { before = omega arith; finished = λ k there by released. omega arith; used = refl })
  busy (suc t) follows =
      let below = busy t (λ s l. follows s (omega arith)) in
      after_slot below.0 t (follows t (omega arith)) below.1 (given_or_not g c t)

-- the service of place k before instant t, where it is due by d
abbrev due_service : List Job → Schedule → ℕ → ℕ → ℕ → ℕ
due_service jobs σ d t k = marked_service σ (due jobs d) t k

module _ (g : ℕ → ℕ) (jobs : List Job) (σ : Schedule) (a d : ℕ) (follows : Follows g jobs σ d) (busy : Busy g jobs σ d a d) where
  -- from a to d a due job gets at most what it adds to the load,
  gets_within : (k : ℕ) → k < length jobs → due_service jobs σ d d k ≤ due_service jobs σ d a k + charge jobs a d k
  gets_within k there =
      let most = service_within g jobs σ d follows k in
      let done = busy.finished k there in
      grind arith

  -- and less where it is late at d
  gets_less : (k : ℕ) → Late jobs σ d k → due_service jobs σ d d k < due_service jobs σ d a k + charge jobs a d k
  gets_less k late =
      let done = busy.finished k late.there late.due in
      let grows = service_grows σ k a d busy.before in
      grind arith

  overloaded : (k : ℕ) → Late jobs σ d k → Overloaded g jobs a d
  overloaded k late =
      let then : ℕ → ℕ = due_service jobs σ d d in
      let first : ℕ → ℕ = due_service jobs σ d a in
      let less = sum_lt then (λ i. first i + charge jobs a d i) (length jobs) gets_within k late.there (gets_less k late) in
      omega (arith, sum_add first (charge jobs a d) (length jobs), load_places jobs a d, busy.used)

pub busy_window : BusyWindow
busy_window g c jobs σ d k follows late =
    let w = busy g c jobs σ d d follows in
    (w.0, w.1.before, overloaded g jobs σ w.0 d follows w.1 k late)
