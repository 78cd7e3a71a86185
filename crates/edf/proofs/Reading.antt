-- A schedule read off a list of entries: writing entry s leaves the slots below s and the stop after it, and slot s then has the turn that was written.
use Rattle.std.proofs.Common.{◌≡◌, ℕ, suc, ◌<◌, ◌≤◌, ◌≢◌, List, length, get_or, set, sym, ap, ◌∙◌, ⊎_elim, arith, get_or-set_other, get_or-set_same}
use Rattle.edf.proofs.Agreement.{Agree}
use Rattle.edf.specs.Edf.{Stops}
use Rattle.edf.specs.Schedule.{Turn, idle, Schedule}
use Rattle.std.proofs.lemmas.Bool.{cases_lt}
use lib.ListN.{get_or-eq_default}

-- slot s has the turn that entry s stands for, and past the list that of the default
abbrev pub read : {X : Type 0} → (X → Turn) → X → List X → Schedule
read turn default entries s = turn (get_or entries s default)

module _ {X : Type 0} (turn : X → Turn) (default : X) (entries : List X) where
  pub written : (s : ℕ) (x : X) → s < length entries → read turn default (set entries s x) s ≡ turn x
  written s x there = ap turn (get_or-set_same entries s x default there)

  pub elsewhere : (s i : ℕ) (x : X) → i ≢ s → read turn default (set entries s x) i ≡ read turn default entries i
  elsewhere s i x other = ap turn (get_or-set_other entries s i x default other)

  pub written_agrees : (s : ℕ) (x : X) → Agree (read turn default entries) (read turn default (set entries s x)) s
  written_agrees s x i l = sym (elsewhere s i x (omega arith))

  pub written_stops : (s : ℕ) (x : X) → Stops (read turn default entries) s → Stops (read turn default (set entries s x)) (suc s)
  written_stops s x stops i m = elsewhere s i x (omega arith) ∙ stops i (omega arith)

  -- the schedule stops at e where the entries from e on are idle, and so is the default
  pub read_stops : (e : ℕ) → turn default ≡ idle → ((i : ℕ) → e ≤ i → i < length entries → turn (get_or entries i default) ≡ idle) → Stops (read turn default entries) e
  read_stops e past within i m =
      ⊎_elim (λ (l : i < length entries). within i m l)
      (λ (over : length entries ≤ i). ap turn (get_or-eq_default entries default over) ∙ past)
      (cases_lt i (length entries))
