-- What is late, and when: a job that is on time is finished at its deadline, and a first miss comes just when its job is due.
use Rattle.std.proofs.Common.{◌≡◌, ℕ, suc, ◌<◌, ◌≤◌, ◌⊎◌, List, length, subst, inl, inr, arith}
use Rattle.edf.proofs.Service.{service_grows}
use Rattle.edf.specs.Edf.{Pending}
use Rattle.edf.specs.Jobs.{Job, job, DueBy}
use Rattle.edf.specs.Lateness.{Late, OnTime, OnTimeBelow, FirstMiss}
use Rattle.edf.specs.Schedule.{Schedule, service}
use Rattle.std.proofs.lemmas.Bool.{cases_lt}

-- every job of the list has its cost at its deadline
abbrev pub Finished : List Job → Schedule → Type 0
Finished jobs σ = (k : ℕ) → k < length jobs → (job jobs k).cost ≤ service σ k (job jobs k).deadline

pub finished_on_time : (jobs : List Job) (σ : Schedule) → Finished jobs σ → OnTime jobs σ
finished_on_time jobs σ finished d k late =
    omega (arith, finished k late.there, late.unfinished, service_grows σ k (job jobs k).deadline d late.due)

-- where no job is late at its own deadline, each is finished there
pub on_time_finished : (jobs : List Job) (σ : Schedule) → ((k : ℕ) → Late jobs σ (job jobs k).deadline k → ⊥) → Finished jobs σ
on_time_finished jobs σ never k there =
    let done : service σ k (job jobs k).deadline < (job jobs k).cost → ⊥ = λ un. never k (record { there = there; due = omega arith; unfinished = un }) in
    omega arith

module _ (jobs : List Job) (σ : Schedule) where
  -- a job that is late first at d is due at d
  pub late_due_now : (d k : ℕ) → OnTimeBelow jobs σ d → Late jobs σ d k → (job jobs k).deadline ≡ d
  late_due_now d k on_time late =
      let not-before : (job jobs k).deadline < d → ⊥ = λ before. on_time (job jobs k).deadline k before (then (omega arith)) in
      omega (arith, late.due)
    where
      then : (job jobs k).deadline ≤ d → Late jobs σ (job jobs k).deadline k
      then le =
          let grows = service_grows σ k (job jobs k).deadline d le in
          record { there = late.there; due = omega arith; unfinished = omega (arith, late.unfinished) }

  pub first_miss_due : (k d : ℕ) → FirstMiss jobs σ k d → (job jobs k).deadline ≡ d
  first_miss_due k d miss = late_due_now d k miss.earliest miss.late

  pub on_time_none : OnTimeBelow jobs σ 0
  on_time_none d k l late = omega arith

  -- one instant more, where each job that is due just then is finished
  pub on_time_more : (e : ℕ) → OnTimeBelow jobs σ e → ((k : ℕ) → k < length jobs → (job jobs k).deadline ≡ e → (job jobs k).cost ≤ service σ k e) → OnTimeBelow jobs σ (suc e)
  on_time_more e on_time done d k l late = by_instant (cases_lt d e)
    where
      now : Late jobs σ e k → ⊥
      now late = omega (arith, late.unfinished, done k late.there (late_due_now e k on_time late))

      by_instant : (d < e) ⊎ (e ≤ d) → ⊥
      by_instant (inl before) = on_time d k before late
      by_instant (inr from) = let at : d ≡ e = omega arith in now (subst (λ t. Late jobs σ t k) at late)

  -- on time to an instant by which every job is due is on time for ever
  pub on_time_ever : (b : ℕ) → DueBy jobs b → OnTimeBelow jobs σ (suc b) → OnTime jobs σ
  on_time_ever b due on_time =
      finished_on_time jobs σ
      (on_time_finished jobs σ (λ k late. on_time (job jobs k).deadline k (omega (arith, due k late.there)) late))

  -- a pending job is due later where none is late yet
  pub pending_due_later : (s k : ℕ) → OnTimeBelow jobs σ (suc s) → Pending jobs σ s k → s < (job jobs k).deadline
  pending_due_later s k on_time p =
      let not-due : (job jobs k).deadline ≤ s → ⊥ = λ due. on_time s k (omega arith) (record { there = p.there; due = due; unfinished = p.unfinished }) in
      omega arith

  -- the lowest place that is due at d and unfinished, where no job was late before, is the first miss
  pub miss_found : (k d : ℕ) → OnTimeBelow jobs σ d → k < length jobs → (job jobs k).deadline ≡ d → service σ k d < (job jobs k).cost → ((j : ℕ) → j < k → (job jobs j).deadline ≡ d → (job jobs j).cost ≤ service σ j d) → FirstMiss jobs σ k d
  miss_found k d on_time there due un lower =
      record {
        late = record { there = there; due = omega arith; unfinished = un };
        earliest = on_time;
        lowest = λ j l late. omega (arith, late.unfinished, lower j l (late_due_now d j on_time late));
      }
