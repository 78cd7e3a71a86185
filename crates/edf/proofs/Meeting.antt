-- A schedule that follows the law meets the list when no job is late at its deadline, and so, by the busy window, when every window has room.
use Rattle.std.proofs.Common.{◌≡◌, ℕ, ◌<◌, ◌≤◌, ◌⊎◌, List, inl, inr, arith}
use Rattle.edf.proofs.BusyWindow.{busy_window}
use Rattle.edf.proofs.Lateness.{Finished, finished_on_time, on_time_finished}
use Rattle.edf.proofs.Law.{served_given, served_pending, service_within}
use Rattle.edf.proofs.Service.{service_grows, service_still, idle_serves_none, turn_cases}
use Rattle.edf.specs.Edf.{Pending, Law, Follows, Stops}
use Rattle.edf.specs.Jobs.{Job, job, DueBy}
use Rattle.edf.specs.Load.{RoomTo}
use Rattle.edf.specs.Lateness.{Late}
use Rattle.edf.specs.Schedule.{idle, serves, Schedule, service, Meets}
use Rattle.edf.specs.Theorems.{Sufficiency, FiniteSufficiency, Exactness}
use Rattle.std.proofs.lemmas.Bool.{cases_lt}
use Rattle.supply.specs.Meaning.{Counting}

module _ (g : ℕ → ℕ) (jobs : List Job) (σ : Schedule) (b : ℕ) (follows : Follows g jobs σ b) (stops : Stops σ b) where
  -- a slot that serves comes before the stop, and so keeps the law
  served_law : (s k : ℕ) → σ s ≡ serves k → Law g jobs σ s
  served_law s k e =
      let not_stopped : b ≤ s → ⊥ = λ after. idle_serves_none (σ s) k (stops s after) e in
      follows s (omega arith)

  served : (s k : ℕ) → σ s ≡ serves k → Pending jobs σ s k
  served s k e = served_pending g jobs σ s k (served_law s k e) e

  -- no job ever gets more than its cost
  pub service_capped : (k s : ℕ) → service σ k s ≤ (job jobs k).cost
  service_capped k s = by_instant (cases_lt s b)
    where
      by_instant : (s < b) ⊎ (b ≤ s) → service σ k s ≤ (job jobs k).cost
      by_instant (inl before) = service_within g jobs σ s (λ i l. follows i (omega arith)) k
      by_instant (inr after) =
          let still = service_still σ k b s after (λ i from upto. idle_serves_none (σ i) k (stops i from)) in
          omega (arith, service_within g jobs σ b follows k)

  -- a job that is finished at its deadline is served before it only
  served_in_time : Finished jobs σ → (s k : ℕ) → σ s ≡ serves k → s < (job jobs k).deadline
  served_in_time finished s k e =
      let p = served s k e in
      let not_after : (job jobs k).deadline ≤ s → ⊥ = λ after. omega (arith, finished k p.there, p.unfinished, service_grows σ k (job jobs k).deadline s after) in
      omega arith

  pub finished_meets : Finished jobs σ → Meets g jobs σ
  finished_meets finished =
      record {
        there = λ s k e. (served s k e).there;
        given = λ s k e. served_given g jobs σ s k (served_law s k e) e;
        released = λ s k e. (served s k e).released;
        in_time = served_in_time finished;
        exact = λ k s there after. omega (arith, finished k there, service_grows σ k (job jobs k).deadline s after, service_capped k s);
      }

-- a schedule that meets a list has every job finished at its deadline
pub meets_finished : (g : ℕ → ℕ) (jobs : List Job) (σ : Schedule) → Meets g jobs σ → Finished jobs σ
meets_finished g jobs σ meets k there = omega (arith, meets.exact k (job jobs k).deadline there (omega arith))

pub exactness : Exactness
exactness g jobs σ e follows stops = (
  λ meets. finished_on_time jobs σ (meets_finished g jobs σ meets),
  λ on_time. finished_meets g jobs σ e follows stops (on_time_finished jobs σ (λ k. on_time (job jobs k).deadline k)),
)

module _ (g : ℕ → ℕ) (c : Counting g) (jobs : List Job) (σ : Schedule) (b : ℕ) (due : DueBy jobs b) where
  -- room in every window lets every job finish
  pub room_finished : RoomTo g jobs b → Follows g jobs σ b → Finished jobs σ
  room_finished room follows = on_time_finished jobs σ never
    where
      never : (k : ℕ) → Late jobs σ (job jobs k).deadline k → ⊥
      never k late =
          let by : (job jobs k).deadline ≤ b = due k late.there in
          let w = busy_window g c jobs σ (job jobs k).deadline k (λ s l. follows s (omega arith)) late in
          omega (arith, room w.0 (job jobs k).deadline w.1 by, w.2)

  -- a schedule that keeps the law stops where every job is finished
  pub finished_stops : ((s : ℕ) → Law g jobs σ s) → Finished jobs σ → Stops σ b
  finished_stops law finished s after = by_turn (turn_cases (σ s))
    where
      not_after : (k : ℕ) → Pending jobs σ s k → ⊥
      not_after k p =
          let by = due k p.there in
          omega (arith, finished k p.there, p.unfinished, service_grows σ k (job jobs k).deadline s (omega arith))

      by_turn : (σ s ≡ idle) ⊎ ((k : ℕ) × (σ s ≡ serves k)) → σ s ≡ idle
      by_turn (inl e) = e
      by_turn (inr (k, e)) = absurd (not_after k (served_pending g jobs σ s k (law s) e))

pub finite_sufficiency : FiniteSufficiency
finite_sufficiency g c jobs σ b due room follows stops =
    finished_meets g jobs σ b follows stops (room_finished g c jobs σ b due room follows)

pub sufficiency : Sufficiency
sufficiency g c jobs σ b due room law =
    let follows : Follows g jobs σ b = λ s l. law s in
    let finished = room_finished g c jobs σ b due room follows in
    finished_meets g jobs σ b follows (finished_stops g c jobs σ b due law finished) finished
