-- The double count: the slots below t that went to marked places, summed by place, change with each slot by what it serves; and the load of a window, summed by place.
use Rattle.std.proofs.Common.{◌≡◌, ℕ, suc, ◌<◌, Bool, true, false, cond, ◌&&◌, leb, ◌⊎◌, List, length, sym, ap, ◌∙◌, inl, inr, arith}
use Rattle.edf.proofs.Service.{service_idle, service_served, service_other}
use Rattle.edf.proofs.Sums.{sum, sum_same, sum_raised, sum_places}
use Rattle.edf.specs.Jobs.{Job, job}
use Rattle.edf.specs.Load.{load}
use Rattle.edf.specs.Schedule.{idle, serves, Schedule, service}
use Rattle.std.proofs.lemmas.Bool.{cases_eq}

-- the service of place k before instant t, where it is marked
abbrev pub marked_service : Schedule → (ℕ → Bool) → ℕ → ℕ → ℕ
marked_service σ marked t k = cond (marked k) (service σ k t) 0

-- the service of the marked places below n before instant t
abbrev pub work : Schedule → (ℕ → Bool) → ℕ → ℕ → ℕ
work σ marked n t = sum (marked_service σ marked t) n

module _ (σ : Schedule) (marked : ℕ → Bool) (n t : ℕ) where
  -- the places that a slot does not serve keep their service
  marked_other : (k i : ℕ) → σ t ≡ serves k → (k ≡ i → ⊥) → marked_service σ marked (suc t) i ≡ marked_service σ marked t i
  marked_other k i e other = ap (λ x. cond (marked i) x 0) (service_other σ i t k e other)

  pub work_idle : σ t ≡ idle → work σ marked n (suc t) ≡ work σ marked n t
  work_idle e =
      sum_same (marked_service σ marked (suc t)) (marked_service σ marked t) n
      (λ k there. ap (λ x. cond (marked k) x 0) (service_idle σ k t e))

  pub work_marked : (k : ℕ) → σ t ≡ serves k → k < n → marked k ≡ true → work σ marked n (suc t) ≡ suc (work σ marked n t)
  work_marked k e there m =
      sum_raised (marked_service σ marked t) (marked_service σ marked (suc t)) n k there here (λ i. marked_other k i e)
    where
      here : marked_service σ marked (suc t) k ≡ suc (marked_service σ marked t k)
      here = let one = service_served σ k t e in grind arith

  pub work_unmarked : (k : ℕ) → σ t ≡ serves k → marked k ≡ false → work σ marked n (suc t) ≡ work σ marked n t
  work_unmarked k e m =
      sum_same (marked_service σ marked (suc t)) (marked_service σ marked t) n (λ i there. by_place i (cases_eq k i))
    where
      by_place : (i : ℕ) → (k ≡ i) ⊎ (k ≡ i → ⊥) → marked_service σ marked (suc t) i ≡ marked_service σ marked t i
      by_place i (inl at) = let m' : marked i ≡ false = ap marked (sym at) ∙ m in grind arith
      by_place i (inr other) = marked_other k i e other

-- place k lies inside the window from a to d: it is released at or after a and due by d
abbrev pub inside : List Job → ℕ → ℕ → ℕ → Bool
inside jobs a d k = leb a (job jobs k).release && leb (job jobs k).deadline d

-- what place k adds to the load of the window from a to d
abbrev pub charge : List Job → ℕ → ℕ → ℕ → ℕ
charge jobs a d k = cond (inside jobs a d k) (job jobs k).cost 0

pub load_places : (jobs : List Job) (a d : ℕ) → load jobs a d ≡ sum (charge jobs a d) (length jobs)
unfolding load
load_places jobs a d = sum_places cost_inside jobs (record { release = 0; deadline = 0; cost = 0 })
  where
    cost_inside : Job → ℕ
    cost_inside j = cond (leb a j.release && leb j.deadline d) j.cost 0
