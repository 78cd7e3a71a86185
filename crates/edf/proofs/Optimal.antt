-- Optimality, by the busy window and the crowd; feasibility, by the crowd and sufficiency of a schedule that exists.
use Rattle.std.proofs.Common.{ℕ, zero, suc, max, List, [], ◌∷◌, arith}
use Rattle.edf.proofs.Crowding.{crowd}
use Rattle.edf.proofs.Construction.{existence}
use Rattle.edf.proofs.Meeting.{sufficiency}
use Rattle.edf.proofs.BusyWindow.{busy_window}
use Rattle.edf.specs.Jobs.{Job, DueBy}
use Rattle.edf.specs.Theorems.{Optimality, Feasibility}

pub optimality : Optimality
optimality g c jobs σ d k follows late τ meets =
    let w = busy_window g c jobs σ d k follows late in
    omega (arith, crowd g c jobs τ meets w.0 d w.1, w.2)

-- every list is due by some instant
due_by : (jobs : List Job) → (b : ℕ) × DueBy jobs b
due_by [] = (0, λ k there. omega arith)
due_by (j ∷ jobs) = let rest = due_by jobs in (max j.deadline rest.0, all rest.0 rest.1)
  where
    all : (b : ℕ) → DueBy jobs b → DueBy (j ∷ jobs) (max j.deadline b)
    all b due zero there = omega arith
    all b due (suc k) there = omega (arith, due k (omega arith))

pub feasibility : Feasibility
feasibility g c jobs = (
  λ met. crowd g c jobs met.0 met.1,
  λ room.
      let b = due_by jobs in
      let σ = existence g jobs in
      (σ.0, sufficiency g c jobs σ.0 b.0 b.1 (λ a d le by. room a d le) σ.1),
)
