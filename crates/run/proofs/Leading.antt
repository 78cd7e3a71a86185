-- Which job of the ready table is the foremost when another is put there, and when it gets a slot.
use Rattle.std.proofs.Common.{◌≡◌, ℕ, ◌<◌, ◌≢◌, List, length, set, Some, None, Option, MatchOption, ap, subst, ⊎_elim, arith}
use Rattle.run.proofs.Holding.{waits_there, waits_set, set_waits, waits_other, other_waits}
use Rattle.run.specs.Ready.{less_one, Waits, NoneWaits, Leads, Foremost}
use Rattle.run.specs.declared.ready.Ready.{Ready}
use Rattle.std.proofs.lemmas.Bool.{cases_eq}

leads_itself : (job : Ready) → Leads job job
leads_itself job = record { earlier = omega arith; lower = λ e. omega arith }

leads_on : (one other last : Ready) → Leads one other → Leads other last → Leads one last
leads_on one other last first then =
    record {
      earlier = omega (arith, first.earlier, then.earlier);
      lower = λ e. omega (arith, first.lower (omega (arith, first.earlier, then.earlier)), then.lower (omega (arith, first.earlier, then.earlier)));
    }

-- the line of a foremost job is one of the table's eight
pub foremost_there : (table : List (Option Ready)) (i : ℕ) (job : Ready) → length table ≡ 8 → Foremost table i job → i < 8
foremost_there table i job room foremost = omega (arith, waits_there table i job foremost.waits)

-- what is so of what is written at a line, and of all that waited, is so of all that waits
pub written_waits : (table : List (Option Ready)) (i : ℕ) (o : Option Ready) → i < length table → (P : Ready → Type 0) → ((ready : Ready) → o ≡ Some ready → P ready) → ((j : ℕ) (ready : Ready) → Waits table j ready → P ready) → (j : ℕ) (ready : Ready) → Waits (set table i o) j ready → P ready
written_waits table i o room P own others j ready w =
    ⊎_elim (λ (e : j ≡ i). own ready (waits_set table i o room ready (subst (λ k. Waits (set table i o) k ready) e w)))
    (λ (ne : j ≢ i). others j ready (waits_other table i j o ready ne w))
    (cases_eq j i)

module _ (table : List (Option Ready)) (i : ℕ) (job : Ready) (room : i < length table) where
  put_waits : (P : Ready → Type 0) → P job → ((j : ℕ) (ready : Ready) → Waits table j ready → P ready) → (j : ℕ) (ready : Ready) → Waits (set table i (Some job)) j ready → P ready
  put_waits P own = written_waits table i (Some job) room P (λ ready e. let same : job ≡ ready = cc in subst P same own)

  -- where none waits, a job that is put is the foremost
  pub foremost_alone : NoneWaits table → Foremost (set table i (Some job)) i job
  foremost_alone none =
      record {
        waits = set_waits table i job room;
        leads = put_waits (Leads job) (leads_itself job) (λ j other w. absurd (none j other w));
      }

  module _ (k : ℕ) (first : Ready) (foremost : Foremost table k first) where
    -- a job that leads the foremost is the foremost once it is put
    pub foremost_ahead : Leads job first → Foremost (set table i (Some job)) i job
    foremost_ahead ahead =
        record {
          waits = set_waits table i job room;
          leads = put_waits (Leads job) (leads_itself job) (λ j other w. leads_on job first other ahead (foremost.leads j other w));
        }

    -- the foremost leads a job that is put behind it
    pub foremost_stays : k ≢ i → Leads first job → Foremost (set table i (Some job)) k first
    foremost_stays ne behind =
        record {
          waits = other_waits table i k (Some job) first ne foremost.waits;
          leads = put_waits (Leads first) behind foremost.leads;
        }

-- a job that gets a slot and wants another stays the foremost
module _ (table : List (Option Ready)) (i : ℕ) (job : Ready) (foremost : Foremost table i job) where
  pub foremost_served : Foremost (set table i (Some (less_one job))) i (less_one job)
  foremost_served =
      let room = waits_there table i job foremost.waits in
      record {
        waits = set_waits table i (less_one job) room;
        leads = put_waits table i (less_one job) room (Leads (less_one job)) (leads_itself (less_one job))
            (λ j other w. let its = foremost.leads j other w in record { earlier = its.earlier; lower = its.lower });
      }

-- what stands beside the table as its foremost job
abbrev pub Tells : List (Option Ready) → Option (ℕ × Ready) → Type 0
Tells table r = MatchOption r (NoneWaits table) (λ first. Foremost table first.0 first.1)

pub tells_idle : (table : List (Option Ready)) (r : Option (ℕ × Ready)) → Tells table r → r ≡ None → NoneWaits table
tells_idle table None none e = none
tells_idle table (Some first) leads e = absurd (cc)

pub tells_leads : (table : List (Option Ready)) (r : Option (ℕ × Ready)) → Tells table r → (x : ℕ × Ready) → r ≡ Some x → Foremost table x.0 x.1
tells_leads table None none x e = absurd (cc)
tells_leads table (Some first) leads x e = let same : first ≡ x = cc in subst (λ p. Foremost table p.0 p.1) same leads

-- the line of a foremost job, and any where none waits
line_in : Option (ℕ × Ready) → ℕ
line_in None = 0
line_in (Some first) = first.0

pub same_line : (one other : ℕ × Ready) → Some one ≡ Some other → one.0 ≡ other.0
unfolding line_in
same_line one other e = ap line_in e
