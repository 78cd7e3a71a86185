-- The theorems of earliest deadline first, for every count g of given slots and every list of jobs. Assumes nothing.
use Rattle.std.specs.Prelude.{◌≡◌, ℕ, ◌<◌, ◌≤◌, ◌↔◌, List}
use Rattle.edf.specs.Edf.{Law, Follows, Stops}
use Rattle.edf.specs.Jobs.{Job, DueBy}
use Rattle.edf.specs.Lateness.{Late, OnTime}
use Rattle.edf.specs.Load.{Room, Overloaded, RoomTo}
use Rattle.edf.specs.Run.{Outcome, met, missed, Runs}
use Rattle.edf.specs.Schedule.{Schedule, Meets}
use Rattle.supply.specs.Meaning.{Counting}

-- Existence: some schedule keeps the law at every slot.
abbrev pub Existence : Type 0
Existence = (g : ℕ → ℕ) (jobs : List Job) → (σ : Schedule) × ((s : ℕ) → Law g jobs σ s)

-- Uniqueness: the law determines the schedule; two that follow it below e agree on every slot below e.
abbrev pub Uniqueness : Type 0
Uniqueness =
    (g : ℕ → ℕ) (jobs : List Job) (σ τ : Schedule) (e : ℕ) → Follows g jobs σ e → Follows g jobs τ e → (s : ℕ) → s < e → σ s ≡ τ s

-- Crowd: where some schedule meets a list, every window has room.
abbrev pub Crowd : Type 0
Crowd =
    (g : ℕ → ℕ) → Counting g → (jobs : List Job) (σ : Schedule) → Meets g jobs σ → (a d : ℕ) → a ≤ d → Room g jobs a d

-- Busy window: where a job is late at d under the law, some window that ends at d is overloaded.
abbrev pub BusyWindow : Type 0
BusyWindow =
    (g : ℕ → ℕ) → Counting g → (jobs : List Job) (σ : Schedule) (d k : ℕ) → Follows g jobs σ d → Late jobs σ d k
    → (a : ℕ) × (a ≤ d) × Overloaded g jobs a d

-- Optimality: where a job is late under the law, no schedule whatever meets the list.
abbrev pub Optimality : Type 0
Optimality =
    (g : ℕ → ℕ) → Counting g → (jobs : List Job) (σ : Schedule) (d k : ℕ) → Follows g jobs σ d → Late jobs σ d k
    → (τ : Schedule) → Meets g jobs τ → ⊥

-- Sufficiency: where every job is due by b and there is room up to b, a schedule that keeps the law at every slot meets the list;
abbrev pub Sufficiency : Type 0
Sufficiency =
    (g : ℕ → ℕ) → Counting g → (jobs : List Job) (σ : Schedule) (b : ℕ) → DueBy jobs b → RoomTo g jobs b
    → ((s : ℕ) → Law g jobs σ s) → Meets g jobs σ

-- and so does one that follows the law below b and stops there.
abbrev pub FiniteSufficiency : Type 0
FiniteSufficiency =
    (g : ℕ → ℕ) → Counting g → (jobs : List Job) (σ : Schedule) (b : ℕ) → DueBy jobs b → RoomTo g jobs b
    → Follows g jobs σ b → Stops σ b → Meets g jobs σ

-- Feasibility: some schedule meets a list exactly when every window has room.
abbrev pub Feasibility : Type 0
Feasibility =
    (g : ℕ → ℕ) → Counting g → (jobs : List Job)
    → (((σ : Schedule) × Meets g jobs σ) ↔ ((a d : ℕ) → a ≤ d → Room g jobs a d))

-- Exactness: a schedule that follows the law below an instant and stops there meets the list exactly when it is on time.
abbrev pub Exactness : Type 0
Exactness =
    (g : ℕ → ℕ) (jobs : List Job) (σ : Schedule) (e : ℕ) → Follows g jobs σ e → Stops σ e → (Meets g jobs σ ↔ OnTime jobs σ)

-- A run is determined: two runs of a list up to b, by which every job is due, have one outcome and one schedule.
abbrev pub RunDetermined : Type 0
RunDetermined =
    (g : ℕ → ℕ) (jobs : List Job) (b : ℕ) → DueBy jobs b → (σ τ : Schedule) (o p : Outcome)
    → Runs g jobs b σ o → Runs g jobs b τ p → (o ≡ p) × ((s : ℕ) → σ s ≡ τ s)

-- A run is exact: it ends with every deadline met exactly when its schedule meets the list.
abbrev pub RunExact : Type 0
RunExact =
    (g : ℕ → ℕ) (jobs : List Job) (b : ℕ) (σ : Schedule) (o : Outcome) → Runs g jobs b σ o → ((o ≡ met) ↔ Meets g jobs σ)

-- A run is optimal: where it misses a deadline, no schedule whatever meets the list.
abbrev pub RunOptimal : Type 0
RunOptimal =
    (g : ℕ → ℕ) → Counting g → (jobs : List Job) (b : ℕ) (σ : Schedule) (k d : ℕ) → Runs g jobs b σ (missed k d)
    → (τ : Schedule) → Meets g jobs τ → ⊥
