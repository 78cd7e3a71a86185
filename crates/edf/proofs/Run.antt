-- What a run gives: it is determined, exact and optimal; all from the law, its uniqueness, and what is late.
use Rattle.std.proofs.Common.{◌≡◌, ℕ, ◌<◌, ◌≤◌, List, sym, refl, ◌∙◌, subst, ap₂, ⊎_elim, arith}
use Rattle.edf.proofs.Agreement.{Agree, late_agree, uniqueness}
use Rattle.edf.proofs.Lateness.{first_miss_due}
use Rattle.edf.proofs.Meeting.{exactness}
use Rattle.edf.proofs.Optimal.{optimality}
use Rattle.edf.specs.Edf.{Follows, Stops}
use Rattle.edf.specs.Jobs.{Job, DueBy}
use Rattle.edf.specs.Lateness.{Late, OnTime, FirstMiss}
use Rattle.edf.specs.Run.{met, missed}
use Rattle.edf.specs.Schedule.{Schedule}
use Rattle.edf.specs.Theorems.{RunDetermined, RunExact, RunOptimal}
use Rattle.std.proofs.lemmas.Bool.{cases_lt}

module _ (g : ℕ → ℕ) (jobs : List Job) (σ τ : Schedule) (k d : ℕ) (follows : Follows g jobs σ d) (miss : FirstMiss jobs σ k d) where
  -- where one schedule misses first at d, every one that follows the law that far is late there
  pub miss_shared : Follows g jobs τ d → Late jobs τ d k
  miss_shared follows' = late_agree jobs σ τ d k (uniqueness g jobs σ τ d follows follows') miss.late

  -- so none is on time that follows it to an instant by which all jobs are due,
  pub miss_not_on_time : (b : ℕ) → DueBy jobs b → Follows g jobs τ b → OnTime jobs τ → ⊥
  miss_not_on_time b due follows' on_time =
      let by : d ≤ b = omega (arith, first_miss_due jobs σ k d miss, due k miss.late.there) in
      on_time d k (miss_shared (λ s l. follows' s (omega arith)))

  -- and none has its first miss later, or at the same instant but a higher place
  miss_not_later : (j e : ℕ) → Follows g jobs τ e → FirstMiss jobs τ j e → e ≤ d
  miss_not_later j e follows' miss' =
      let not-before : d < e → ⊥ = λ before. miss'.earliest d k before (miss_shared (λ s l. follows' s (omega arith))) in
      omega arith

  miss_not_higher : (j : ℕ) → Follows g jobs τ d → FirstMiss jobs τ j d → j ≤ k
  miss_not_higher j follows' miss' =
      let not_lower : k < j → ⊥ = λ lower. miss'.lowest k lower (miss_shared follows') in
      omega arith

module _ (g : ℕ → ℕ) (jobs : List Job) (σ τ : Schedule) (k d j : ℕ) (follows : Follows g jobs σ d) (miss : FirstMiss jobs σ k d) where
  -- the first miss comes at one and the same instant for every schedule that follows the law to it,
  pub miss_instant : (e : ℕ) → Follows g jobs τ e → FirstMiss jobs τ j e → d ≡ e
  miss_instant e follows' miss' =
      let not-later = miss_not_later g jobs σ τ k d follows miss j e follows' miss' in
      let not-before = miss_not_later g jobs τ σ j e follows' miss' k d follows miss in
      omega arith

  -- and at one and the same place
  pub miss_place : Follows g jobs τ d → FirstMiss jobs τ j d → k ≡ j
  miss_place follows' miss' =
      let not-higher = miss_not_higher g jobs σ τ k d follows miss j follows' miss' in
      let not_lower = miss_not_higher g jobs τ σ j d follows' miss' k follows miss in
      omega arith

-- two schedules that agree below e and stop there are one
pub stops_agree : (σ τ : Schedule) (e : ℕ) → Agree σ τ e → Stops σ e → Stops τ e → (s : ℕ) → σ s ≡ τ s
stops_agree σ τ e agree stops stops' s =
    ⊎_elim (λ (l : s < e). agree s l) (λ (m : e ≤ s). stops s m ∙ sym (stops' s m)) (cases_lt s e)

pub run_determined : RunDetermined
run_determined g jobs b due σ τ met met (follows, stops, on_time) (follows', stops', on-time') =
    (refl, stops_agree σ τ b (uniqueness g jobs σ τ b follows follows') stops stops')
run_determined g jobs b due σ τ met (missed j e) (follows, stops, on_time) (follows', stops', miss') =
    absurd (miss_not_on_time g jobs τ σ j e follows' miss' b due follows on_time)
run_determined g jobs b due σ τ (missed k d) met (follows, stops, miss) (follows', stops', on-time') =
    absurd (miss_not_on_time g jobs σ τ k d follows miss b due follows' on-time')
run_determined g jobs b due σ τ (missed k d) (missed j e) (follows, stops, miss) (follows', stops', miss') =
    let same : d ≡ e = miss_instant g jobs σ τ k d j follows miss e follows' miss' in
    let to-d : Follows g jobs τ d = λ s l. follows' s (omega arith) in
    let from-d : Stops τ d = λ s m. stops' s (omega arith) in
    let place : k ≡ j = miss_place g jobs σ τ k d j follows miss to-d (subst (FirstMiss jobs τ j) (sym same) miss') in
    (ap₂ missed place same, stops_agree σ τ d (uniqueness g jobs σ τ d follows to-d) stops from-d)

pub run_exact : RunExact
run_exact g jobs b σ met (follows, stops, on_time) = (λ e. (exactness g jobs σ b follows stops).1 on_time, λ meets. refl)
run_exact g jobs b σ (missed k d) (follows, stops, miss) = (
  λ e. absurd (not_met k d e),
  λ meets. absurd ((exactness g jobs σ d follows stops).0 meets d k miss.late),
)
  where
    not_met : (k d : ℕ) → missed k d ≡ met → ⊥
    not_met k d e = let z : ◌≡◌ {A = ℕ} 0 1 = cc in omega arith

pub run_optimal : RunOptimal
run_optimal g c jobs b σ k d (follows, stops, miss) = optimality g c jobs σ d k follows miss.late
