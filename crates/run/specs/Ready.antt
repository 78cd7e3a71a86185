-- The ready table of a run: for each line the job that waits there, if one does. Assumes nothing.
use Rattle.std.specs.Prelude.{◌≡◌, ℕ, ◌-◌, ◌≤◌, cond, List, Some, None, Option, nat_le, slice_index_or, slice_set}
use Rattle.run.specs.declared.ready.Ready.{Ready}

-- A job waits at line i when it stands there in the table.
abbrev pub Waits : List (Option Ready) → ℕ → Ready → Type 0
Waits table i job = slice_index_or table i None ≡ Some job

-- No job waits at any line.
abbrev pub NoneWaits : List (Option Ready) → Type 0
NoneWaits table = (i : ℕ) (job : Ready) → Waits table i job → ⊥

-- One job leads another when it is due first, or at the same instant and its place is no higher.
pub record Leads (one other : Ready) : Type 0 where
  pub earlier : one.rank.deadline ≤ other.rank.deadline
  pub lower : one.rank.deadline ≡ other.rank.deadline → one.rank.place ≤ other.rank.place

-- A job at line i is foremost when it waits and leads every job that waits.
pub record Foremost (table : List (Option Ready)) (i : ℕ) (job : Ready) : Type 0 where
  pub waits : Waits table i job
  pub leads : (j : ℕ) (other : Ready) → Waits table j other → Leads job other

-- A job with one slot less to go.
abbrev pub less_one : Ready → Ready
less_one job = record { rank = job.rank; left = job.left - 1 }

-- What waits of a job after a slot that it got: none where that was the last that it wanted.
abbrev pub served : Ready → Option Ready
served job = cond (nat_le job.left 1) None (Some (less_one job))

-- A slot serves the foremost job of the table, which then has one slot less to go; or none, where none waits.
abbrev pub Serves : List (Option Ready) → Option ℕ → List (Option Ready) → Type 0
Serves table None after = NoneWaits table × (after ≡ table)
Serves table (Some place) after =
    (i : ℕ) × (job : Ready) × Foremost table i job × (place ≡ job.rank.place) × (after ≡ slice_set table i (served job))
