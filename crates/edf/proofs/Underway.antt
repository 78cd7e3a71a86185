-- The invariant of a run that fills slot after slot: it holds at the start, one slot keeps it, and at the end it gives the outcome.
use Rattle.std.proofs.Common.{◌≡◌, ℕ, suc, ◌<◌, ◌≤◌, List, length}
use Rattle.edf.proofs.Agreement.{Agree, on_time_agree}
use Rattle.edf.proofs.Lateness.{on_time_none, on_time_more, on_time_ever, miss_found}
use Rattle.edf.proofs.Law.{follows_none}
use Rattle.edf.proofs.Steps.{follows_next}
use Rattle.edf.specs.Edf.{Law, Follows, Stops}
use Rattle.edf.specs.Jobs.{Job, job, DueBy}
use Rattle.edf.specs.Lateness.{OnTimeBelow}
use Rattle.edf.specs.Run.{met, missed, Runs}
use Rattle.edf.specs.Schedule.{Schedule, service}

-- A run has come to instant s: its slots below s follow the law, the others are idle, and no job was late before s.
pub record Underway (g : ℕ → ℕ) (jobs : List Job) (σ : Schedule) (s : ℕ) : Type 0 where
  pub follows : Follows g jobs σ s
  pub stops : Stops σ s
  pub on_time : OnTimeBelow jobs σ s

-- every job of the list that is due just at s is finished
abbrev pub DoneAt : List Job → Schedule → ℕ → Type 0
DoneAt jobs σ s = (k : ℕ) → k < length jobs → (job jobs k).deadline ≡ s → (job jobs k).cost ≤ service σ k s

module _ (g : ℕ → ℕ) (jobs : List Job) (σ : Schedule) where
  pub underway_none : Stops σ 0 → Underway g jobs σ 0
  underway_none stops = record { follows = follows_none g jobs σ; stops = stops; on_time = on_time_none jobs σ }

  -- one slot more, by a schedule that agrees with the one so far
  pub underway_next : (τ : Schedule) (s : ℕ) → Underway g jobs σ s → DoneAt jobs σ s → Agree σ τ s → Stops τ (suc s) → Law g jobs τ s → Underway g jobs τ (suc s)
  underway_next τ s run done agree stops law =
      record {
        follows = follows_next g jobs σ τ s agree run.follows law;
        stops = stops;
        on_time = on_time_agree jobs σ τ s agree (on_time_more jobs σ s run.on_time done);
      }

  -- the end, with every deadline met
  pub underway_met : (b : ℕ) → DueBy jobs b → Underway g jobs σ b → DoneAt jobs σ b → Runs g jobs b σ met
  underway_met b due run done =
      (run.follows, run.stops, on_time_ever jobs σ b due (on_time_more jobs σ b run.on_time done))

  -- the end at a miss, that of the lowest place that is due and unfinished
  pub underway_missed : (b k d : ℕ) → Underway g jobs σ d → k < length jobs → (job jobs k).deadline ≡ d → service σ k d < (job jobs k).cost → ((j : ℕ) → j < k → (job jobs j).deadline ≡ d → (job jobs j).cost ≤ service σ j d) → Runs g jobs b σ (missed k d)
  underway_missed b k d run there due un lower =
      (run.follows, run.stops, miss_found jobs σ k d run.on_time there due un lower)
