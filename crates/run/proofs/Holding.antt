-- The ready table holds exactly the pending jobs: none at first, one more as it is released, and slot after slot.
use Rattle.std.proofs.Common.{◌≡◌, ℕ, suc, ◌<◌, ◌≤◌, ◌≢◌, List, length, get_or, set, Some, None, Option, sym, refl, ap, ◌∙◌, subst, ⊎_elim, arith}
use Rattle.edf.proofs.Agreement.{Agree}
use Rattle.edf.proofs.Steps.{service_next_idle, service_next_served, service_next_other}
use Rattle.edf.specs.Edf.{Unfinished}
use Rattle.edf.specs.Jobs.{Job}
use Rattle.edf.specs.Schedule.{Schedule, idle, serves, service}
use Rattle.run.specs.Holding.{Stands, StandsIn, Right, Holds}
use Rattle.run.specs.Ready.{less_one, served, Waits, NoneWaits}
use Rattle.run.specs.declared.ready.Ready.{Ready}
use Rattle.std.proofs.lemmas.List.{get_or-set_same, get_or-set_other, get_or_past}
use Rattle.std.proofs.lemmas.Bool.{cases_eq, cases_lt}

-- a job that waits is in the table
pub waits_there : (table : List (Option Ready)) (i : ℕ) (ready : Ready) → Waits table i ready → i < length table
waits_there table i ready w =
    ⊎_elim (λ (l : i < length table). l)
    (λ (past : length table ≤ i). let none = get_or_past table i None past in absurd (cc))
    (cases_lt i (length table))

-- what waits at a line that was written, and what waits at another
pub waits_set : (table : List (Option Ready)) (i : ℕ) (o : Option Ready) → i < length table → (ready : Ready) → Waits (set table i o) i ready → o ≡ Some ready
waits_set table i o room ready w = sym (get_or-set_same table i o None room) ∙ w

pub set_waits : (table : List (Option Ready)) (i : ℕ) (ready : Ready) → i < length table → Waits (set table i (Some ready)) i ready
set_waits table i ready room = get_or-set_same table i (Some ready) None room

pub waits_other : (table : List (Option Ready)) (i j : ℕ) (o : Option Ready) (ready : Ready) → j ≢ i → Waits (set table i o) j ready → Waits table j ready
waits_other table i j o ready ne w = sym (get_or-set_other table i j o None ne) ∙ w

pub other_waits : (table : List (Option Ready)) (i j : ℕ) (o : Option Ready) (ready : Ready) → j ≢ i → Waits table j ready → Waits (set table i o) j ready
other_waits table i j o ready ne w = get_or-set_other table i j o None ne ∙ w

-- what is left of a job that got a slot
pub served_is : (job ready : Ready) → served job ≡ Some ready → (1 < job.left) × (ready ≡ less_one job)
served_is job ready e = grind arith

pub served_more : (job : Ready) → 1 < job.left → served job ≡ Some (less_one job)
served_more job l = grind arith

module _ (jobs : List Job) (line_by_place : ℕ → ℕ) (σ : Schedule) (s : ℕ) where
  pub holds_none : (table : List (Option Ready)) → NoneWaits table → Holds jobs line_by_place σ s 0 table
  holds_none table none = record { all = λ k l un. absurd (omega arith); only = λ i ready w. absurd (none i ready w) }

  -- a job that stands for place n is right at its line
  right_last : (n : ℕ) (ready : Ready) → 0 < ready.left → Stands jobs σ s n ready → Right jobs line_by_place σ s (suc n) (line_by_place n) ready
  right_last n ready wanting stands =
      record {
        there = omega (arith, stands.place);
        own = ap line_by_place stands.place;
        stands = subst (λ k. Stands jobs σ s k ready) (sym stands.place) stands;
        wanting = wanting;
      }

  right_more : (n i : ℕ) (ready : Ready) → Right jobs line_by_place σ s n i ready → Right jobs line_by_place σ s (suc n) i ready
  right_more n i ready right =
      record { there = omega (arith, right.there); own = right.own; stands = right.stands; wanting = right.wanting }

  -- one job more, where no unfinished job of its line stands before it
  pub holds_more : (table : List (Option Ready)) (n : ℕ) (ready : Ready) → Holds jobs line_by_place σ s n table → line_by_place n < length table → 0 < ready.left → Stands jobs σ s n ready → ((k : ℕ) → k < n → line_by_place k ≡ line_by_place n → Unfinished jobs σ k s → ⊥) → Holds jobs line_by_place σ s (suc n) (set table (line_by_place n) (Some ready))
  holds_more table n ready holds room wanting stands free = record { all = all; only = only }
    where
      all : (k : ℕ) → k < suc n → Unfinished jobs σ k s → StandsIn jobs line_by_place σ s (set table (line_by_place n) (Some ready)) k
      all k l un =
          ⊎_elim
          (λ (e : k ≡ n). (ready, subst (λ j. Waits (set table (line_by_place n) (Some ready)) (line_by_place j) ready) (sym e) (set_waits table (line_by_place n) ready room), subst (λ j. Stands jobs σ s j ready) (sym e) stands))
          (λ (ne : k ≡ n → ⊥). let stood = holds.all k (omega arith) un in (stood.0, other_waits table (line_by_place n) (line_by_place k) (Some ready) stood.0 (λ e. free k (omega arith) e un) stood.1, stood.2))
          (cases_eq k n)

      only : (i : ℕ) (its : Ready) → Waits (set table (line_by_place n) (Some ready)) i its → Right jobs line_by_place σ s (suc n) i its
      only i its w =
          ⊎_elim
          (λ (e : i ≡ line_by_place n). let here = waits_set table (line_by_place n) (Some ready) room its (subst (λ j. Waits (set table (line_by_place n) (Some ready)) j its) e w) in let same : ready ≡ its = cc in subst (λ j. Right jobs line_by_place σ s (suc n) j its) (sym e) (subst (Right jobs line_by_place σ s (suc n) (line_by_place n)) same (right_last n ready wanting stands)))
          (λ (ne : i ≡ line_by_place n → ⊥). right_more n i its (holds.only i its (waits_other table (line_by_place n) i (Some ready) its ne w)))
          (cases_eq i (line_by_place n))

module _ (jobs : List Job) (line_by_place : ℕ → ℕ) (σ τ : Schedule) (s : ℕ) (agree : Agree σ τ s) where
  -- a place that the slot does not serve stands as it did
  stands_still : (k : ℕ) (ready : Ready) → service τ k (suc s) ≡ service σ k s → Stands jobs σ s k ready → Stands jobs τ (suc s) k ready
  stands_still k ready same stands =
      record { place = stands.place; deadline = stands.deadline; left = omega (arith, stands.left) }

  right_still : (n i : ℕ) (ready : Ready) → service τ ready.rank.place (suc s) ≡ service σ ready.rank.place s → Right jobs line_by_place σ s n i ready → Right jobs line_by_place τ (suc s) n i ready
  right_still n i ready same right =
      record { there = right.there; own = right.own; stands = stands_still ready.rank.place ready same right.stands; wanting = right.wanting }

  -- after an idle slot the table holds what it held
  pub holds_idle : (table : List (Option Ready)) (n : ℕ) → τ s ≡ idle → Holds jobs line_by_place σ s n table → Holds jobs line_by_place τ (suc s) n table
  holds_idle table n e holds =
      record {
        all = λ k l un. let stood = holds.all k l (omega (arith, un, same k)) in (stood.0, stood.1, stands_still k _ (same k) stood.2);
        only = λ i ready w. right_still n i ready (same _) (holds.only i ready w);
      }
    where
      same : (k : ℕ) → service τ k (suc s) ≡ service σ k s
      same k = service_next_idle σ τ s agree k e

  -- after a slot that served the job of line i, that job has one slot less to go
  pub holds_served : (table : List (Option Ready)) (n i : ℕ) (job : Ready) → Waits table i job → τ s ≡ serves job.rank.place → Holds jobs line_by_place σ s n table → Holds jobs line_by_place τ (suc s) n (set table i (served job))
  holds_served table n i job w e holds = record { all = all; only = only }
    where
      mine : Right jobs line_by_place σ s n i job
      mine = holds.only i job w

      room : i < length table
      room = waits_there table i job w

      still : (k : ℕ) → (job.rank.place ≡ k → ⊥) → service τ k (suc s) ≡ service σ k s
      still k ne = service_next_other σ τ s agree k job.rank.place e ne

      after : Stands jobs τ (suc s) job.rank.place (less_one job)
      after =
          let more = service_next_served σ τ s agree job.rank.place e in
          record { place = refl; deadline = mine.stands.deadline; left = omega (arith, mine.stands.left, mine.wanting, more) }

      all_mine : Unfinished jobs τ job.rank.place (suc s) → StandsIn jobs line_by_place τ (suc s) (set table i (served job)) job.rank.place
      all_mine un =
          let more : 1 < job.left = omega (arith, un, mine.wanting, after.left) in
          let here = subst (λ o. Waits (set table i o) i (less_one job)) (sym (served_more job more)) (set_waits table i (less_one job) room) in
          (less_one job, subst (λ j. Waits (set table i (served job)) j (less_one job)) (sym mine.own) here, after)

      all_other : (k : ℕ) → (job.rank.place ≡ k → ⊥) → k < n → Unfinished jobs τ k (suc s) → StandsIn jobs line_by_place τ (suc s) (set table i (served job)) k
      all_other k ne l un =
          let stood = holds.all k l (omega (arith, un, still k ne)) in
          let apart : line_by_place k ≢ i = λ here. let both = ap (λ j. get_or table j None) here in let same : job ≡ stood.0 = cc in ne (ap (λ (r : Ready). r.rank.place) same ∙ stood.2.place) in
          (stood.0, other_waits table i (line_by_place k) (served job) stood.0 apart stood.1, stands_still k _ (still k ne) stood.2)

      all : (k : ℕ) → k < n → Unfinished jobs τ k (suc s) → StandsIn jobs line_by_place τ (suc s) (set table i (served job)) k
      all k l un =
          ⊎_elim
          (λ (here : job.rank.place ≡ k). subst (StandsIn jobs line_by_place τ (suc s) (set table i (served job))) here (all_mine (subst (λ j. Unfinished jobs τ j (suc s)) (sym here) un)))
          (λ (ne : job.rank.place ≡ k → ⊥). all_other k ne l un)
          (cases_eq job.rank.place k)

      only_other : (j : ℕ) (its : Ready) → j ≢ i → Waits table j its → Right jobs line_by_place τ (suc s) n j its
      only_other j its ne waits =
          let right = holds.only j its waits in
          right_still n j its (still _ (λ here. ne (sym right.own ∙ ap line_by_place (sym here) ∙ mine.own))) right

      only_mine : (its : Ready) → Waits (set table i (served job)) i its → Right jobs line_by_place τ (suc s) n i its
      only_mine its waits =
          let is = served_is job its (waits_set table i (served job) room its waits) in
          subst (Right jobs line_by_place τ (suc s) n i) (sym is.1) (record { there = mine.there; own = mine.own; stands = after; wanting = omega (arith, is.0) })

      only : (j : ℕ) (its : Ready) → Waits (set table i (served job)) j its → Right jobs line_by_place τ (suc s) n j its
      only j its waits =
          ⊎_elim
          (λ (here : j ≡ i). subst (λ x. Right jobs line_by_place τ (suc s) n x its) (sym here) (only_mine its (subst (λ x. Waits (set table i (served job)) x its) here waits)))
          (λ (ne : j ≡ i → ⊥). only_other j its ne (waits_other table i j (served job) its ne waits))
          (cases_eq j i)
