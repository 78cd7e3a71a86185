-- The state of a run that has filled the slots below an instant: how it begins, what one slot more leaves, and how it ends.
use Rattle.std.proofs.Common.{◌≡◌, ℕ, suc, ◌+◌, ◌%◌, ◌<◌, ◌≤◌, List, length, replicate, set, IfSome, Some, None, Option, sym, refl, ap, ◌∙◌, subst, ⊎_elim, mod-lt, add-one, arith}
use Rattle.edf.proofs.Agreement.{Agree}
use Rattle.edf.proofs.Lateness.{on_time_more}
use Rattle.edf.proofs.Law.{law_not_given, service_unreleased}
use Rattle.edf.proofs.Reading.{written, written_agrees, written_stops}
use Rattle.edf.proofs.Steps.{next_idle, next_serves}
use Rattle.edf.proofs.Underway.{Underway, DoneAt, underway_none, underway_next, underway_met}
use Rattle.edf.specs.Edf.{Law}
use Rattle.edf.specs.Jobs.{Job, job, DueBy}
use Rattle.edf.specs.Run.{met, missed, Runs}
use Rattle.edf.specs.Schedule.{Given, idle, serves, service}
use Rattle.run.proofs.Choosing.{none_pending, foremost_first, none_overdue, overdue_missed}
use Rattle.run.proofs.Holding.{holds_none, holds_idle, holds_served}
use Rattle.run.specs.Holding.{Keeping, Holds, Cursor, Settled, Admits}
use Rattle.run.specs.Ready.{Waits, NoneWaits, Foremost, Serves}
use Rattle.run.specs.Slots.{given_in, entry, turn, schedule, entry_for, Entries}
use Rattle.run.specs.declared.ready.Ready.{Ready}
use Rattle.std.proofs.lemmas.List.{get_or-set_same, get_or-set_other, get_or-replicate, get_or_past, length-replicate}
use Rattle.std.proofs.lemmas.Bool.{cases_lt}
use Rattle.supply.specs.Meaning.{Meaning, Counting, Counts}

-- what an entry says, and what it is then
turn_serves : (e k : ℕ) → turn e ≡ serves k → e ≡ suc k
turn_serves e k served = grind arith

turn_place : (k : ℕ) → k < 65534 → turn (suc k) ≡ serves k
turn_place k l = grind arith

-- the entry of a given slot is 0 where it is idle
given_idle : (o : Option ℕ) → IfSome o (λ k. k < 65534) → turn (entry_for o) ≡ idle → entry_for o ≡ 0
given_idle None small e = refl
given_idle (Some k) small e = absurd (grind arith)

module _ (g : ℕ → ℕ) (slots : List ℕ) (s : ℕ) (entries : Entries g slots s) where
  -- one slot more, which is not given and keeps its entry
  pub entries_left : (Given g s → ⊥) → Entries g slots (suc s)
  entries_left not =
      record {
        not_given = λ i l no_slot. ⊎_elim (λ (m : i < s). entries.not_given i m no_slot) (λ (m : s ≤ i). entries.behind i m) (cases_lt i s);
        idle_given = λ i l given e. ⊎_elim (λ (m : i < s). entries.idle_given i m given e) (λ (m : s ≤ i). let at : i ≡ s = omega arith in absurd (not (subst (Given g) at given))) (cases_lt i s);
        running = λ i k l e. turn_serves (entry slots i) k e;
        behind = λ i m. entries.behind i (omega arith);
      }

  -- one slot more, which is given and gets its entry
  pub entries_written : (x : ℕ) → s < length slots → Given g s → (turn x ≡ idle → x ≡ 0) → Entries g (set slots s x) (suc s)
  entries_written x there given right =
      record {
        not_given = λ i l no_slot. ⊎_elim (λ (m : i < s). other i (omega arith) ∙ entries.not_given i m no_slot) (λ (m : s ≤ i). let at : s ≡ i = omega arith in absurd (no_slot (subst (Given g) at given))) (cases_lt i s);
        idle_given = λ i l given-i e. ⊎_elim (λ (m : i < s). other i (omega arith) ∙ entries.idle_given i m given-i (ap turn (sym (other i (omega arith))) ∙ e)) (λ (m : s ≤ i). let at : s ≡ i = omega arith in zero_at i at e) (cases_lt i s);
        running = λ i k l e. turn_serves (entry (set slots s x) i) k e;
        behind = λ i m. other i (omega arith) ∙ entries.behind i (omega arith);
      }
    where
      other : (i : ℕ) → (i ≡ s → ⊥) → entry (set slots s x) i ≡ entry slots i
      other i ne = get_or-set_other slots s i x 65535 ne

      same : entry (set slots s x) s ≡ x
      same = get_or-set_same slots s x 65535 there

      zero_at : (i : ℕ) → s ≡ i → schedule (set slots s x) i ≡ idle → entry (set slots s x) i ≡ 0
      zero_at i at e =
          let here : entry (set slots s x) i ≡ x = ap (entry (set slots s x)) (sym at) ∙ same in
          here ∙ right (sym (ap turn here) ∙ e)

-- where no slot is given
pub all_clear : (n s : ℕ) → entry (replicate n 65535) s ≡ 65535
all_clear n s =
    ⊎_elim (λ (l : s < n). get_or-replicate n s 65535 65535 l) (λ (m : n ≤ s). get_or_past (replicate n 65535) s 65535 (omega (arith, m, length-replicate {A = ℕ}))) (cases_lt s n)

-- the given slots of a phase are counted
pub given_counting : (m : Meaning) (phase : ℕ) → Counts m → Counting (given_in m phase)
given_counting m phase counts = counts.1 (phase % m.phases) (mod-lt phase counts.0)

-- where the count rises a slot is given, and where it stays none is
pub count_given : (m : Meaning) (phase s before after : ℕ) → Counts m → before ≡ given_in m phase s → after ≡ given_in m phase (s + 1) → before < after → Given (given_in m phase) s
count_given m phase s before after counts was is rises =
    let next = ap (given_in m phase) (add-one s) in
    omega (arith, (given_counting m phase counts).climbs s)

pub count_not_given : (m : Meaning) (phase s before after : ℕ) → before ≡ given_in m phase s → after ≡ given_in m phase (s + 1) → after ≤ before → Given (given_in m phase) s → ⊥
count_not_given m phase s before after was is stays given = let next = ap (given_in m phase) (add-one s) in omega arith

-- A run has filled the slots below s: it is underway, no job is late at s, the table holds the jobs released before s, and the entries are right.
pub record Filled (g : ℕ → ℕ) (jobs : List Job) (line_by_place : ℕ → ℕ) (slots : List ℕ) (s n : ℕ) (table : List (Option Ready)) : Type 0 where
  pub underway : Underway g jobs (schedule slots) s
  pub done : DoneAt jobs (schedule slots) s
  pub cursor : Cursor jobs s s n
  pub holds : Holds jobs line_by_place (schedule slots) s n table
  pub entries : Entries g slots s

-- Slot s is filled too, and it is not looked yet whether a job is late at its end.
pub record Served (g : ℕ → ℕ) (jobs : List Job) (line_by_place : ℕ → ℕ) (slots : List ℕ) (s n : ℕ) (table : List (Option Ready)) : Type 0 where
  pub underway : Underway g jobs (schedule slots) (suc s)
  pub cursor : Cursor jobs s (suc s) n
  pub holds : Holds jobs line_by_place (schedule slots) (suc s) n table
  pub entries : Entries g slots (suc s)

module _ (g : ℕ → ℕ) (jobs : List Job) (line_by_place : ℕ → ℕ) (keeping : Keeping jobs line_by_place) where
  -- the start, with a slot list that is clear
  pub filled_none : (slots : List ℕ) (table : List (Option Ready)) → ((s : ℕ) → entry slots s ≡ 65535) → NoneWaits table → Filled g jobs line_by_place slots 0 0 table
  filled_none slots table clear none =
      record {
        underway = underway_none g jobs (schedule slots) (λ s l. ap turn (clear s));
        done = λ k there due. absurd (omega (arith, keeping.lasting k there));
        cursor = record { within = omega arith; released = λ k l. absurd (omega arith); ahead = λ k l there. omega arith };
        holds = holds_none jobs line_by_place (schedule slots) 0 table none;
        entries = record { not_given = λ s l no_slot. absurd (omega arith); idle_given = λ s l given e. absurd (omega arith); running = λ s k l e. absurd (omega arith); behind = λ s l. clear s };
      }

  module _ (slots : List ℕ) (s n : ℕ) (table : List (Option Ready)) (filled : Filled g jobs line_by_place slots s n table) where
    -- all is settled at the instant
    pub filled_settled : Settled jobs (schedule slots) s
    filled_settled =
        record {
          finished = λ k there due. finished k there due;
          unserved = λ k there early. service_unreleased g jobs (schedule slots) s filled.underway.follows k early;
        }
      where
        finished : (k : ℕ) → k < length jobs → (job jobs k).deadline ≤ s → (job jobs k).cost ≤ service (schedule slots) k s
        finished k there due =
            let on_time = on_time_more jobs (schedule slots) s filled.underway.on_time filled.done in
            let not : service (schedule slots) k s < (job jobs k).cost → ⊥ = λ un. on_time s k (omega arith) (record { there = there; due = due; unfinished = un }) in
            omega arith

    -- what was admitted, by this run's schedule
    pub filled_admitted : (m : ℕ) (after : List (Option Ready)) → Admits jobs line_by_place s n table m after → Holds jobs line_by_place (schedule slots) s m after
    filled_admitted m after admits = admits (schedule slots) filled_settled filled.holds

    module _ (m : ℕ) (admitted : List (Option Ready)) (cursor : Cursor jobs s (suc s) m) (holds : Holds jobs line_by_place (schedule slots) s m admitted) where
      -- a slot that is not given
      pub served_not_given : (Given g s → ⊥) → Served g jobs line_by_place slots s m admitted
      served_not_given not =
          let quiet : schedule slots s ≡ idle = filled.underway.stops s (omega arith) in
          let agree : Agree (schedule slots) (schedule slots) s = λ i l. refl in
          record {
            underway = underway_next g jobs (schedule slots) (schedule slots) s filled.underway filled.done agree (λ i l. filled.underway.stops i (omega arith)) (law_not_given g jobs (schedule slots) s not quiet);
            cursor = cursor;
            holds = holds_idle jobs line_by_place (schedule slots) (schedule slots) s agree admitted m quiet holds;
            entries = entries_left g slots s filled.entries not;
          }

      -- a place that is served is one of the list
      pub served_small : (o : Option ℕ) (after : List (Option Ready)) → Serves admitted o after → length jobs ≤ 2048 → IfSome o (λ place. place < 65535)
      served_small None after none few = tt
      served_small (Some place) after (i, job, foremost, is, same) few = omega (arith, (holds.only i job foremost.waits).there, cursor.within)

      module _ (there : s < length slots) (given : Given g s) where
        -- a given slot, by the law at what is written
        served_by : (x : ℕ) (after : List (Option Ready)) → Law g jobs (schedule (set slots s x)) s → Holds jobs line_by_place (schedule (set slots s x)) (suc s) m after → (turn x ≡ idle → x ≡ 0) → Served g jobs line_by_place (set slots s x) s m after
        served_by x after law held right =
            record {
              underway = underway_next g jobs (schedule slots) (schedule (set slots s x)) s filled.underway filled.done (written_agrees turn 65535 slots s x) (written_stops turn 65535 slots s x filled.underway.stops) law;
              cursor = cursor;
              holds = held;
              entries = entries_written g slots s filled.entries x there given right;
            }

        -- a given slot that serves the foremost job, or none where none waits
        pub served_given : (o : Option ℕ) (after : List (Option Ready)) → Serves admitted o after → length jobs ≤ 2048 → Served g jobs line_by_place (set slots s (entry_for o)) s m after
        served_given None after (none, same) few =
            let agree = written_agrees turn 65535 slots s 0 in
            let quiet = written turn 65535 slots s 0 there in
            let law = next_idle g jobs (schedule slots) (schedule (set slots s 0)) s agree quiet (none_pending jobs line_by_place (schedule slots) s m admitted holds cursor none) in
            served_by 0 after law
            (subst (Holds jobs line_by_place (schedule (set slots s 0)) (suc s) m) (sym same) (holds_idle jobs line_by_place (schedule slots) (schedule (set slots s 0)) s agree admitted m quiet holds))
            (λ e. refl)
        served_given (Some place) after (i, job, foremost, is, same) few =
            let right = holds.only i job foremost.waits in
            let small : place < 65534 = omega (arith, right.there, cursor.within) in
            let agree = written_agrees turn 65535 slots s (suc place) in
            let serving : schedule (set slots s (suc place)) s ≡ serves job.rank.place = written turn 65535 slots s (suc place) there ∙ turn_place place small ∙ ap serves is in
            let law = next_serves g jobs (schedule slots) (schedule (set slots s (suc place))) s agree job.rank.place given serving (foremost_first jobs line_by_place (schedule slots) s m admitted holds cursor i job foremost) in
            served_by (suc place) after law
            (subst (Holds jobs line_by_place (schedule (set slots s (suc place))) (suc s) m) (sym same) (holds_served jobs line_by_place (schedule slots) (schedule (set slots s (suc place))) s agree admitted m i job foremost.waits serving holds))
            (given_idle (Some place) small)

  module _ (slots : List ℕ) (s n : ℕ) (table : List (Option Ready)) (served : Served g jobs line_by_place slots s n table) where
    -- the run goes on where all that wait are due later
    pub filled_more : ((i : ℕ) (job : Ready) → Waits table i job → suc s < job.rank.deadline) → Filled g jobs line_by_place slots (suc s) n table
    filled_more later =
        let cursor = served.cursor in
        record {
          underway = served.underway;
          done = none_overdue g jobs line_by_place (schedule slots) s n table keeping served.holds cursor later;
          cursor = record { within = cursor.within; released = λ k l. omega (arith, cursor.released k l); ahead = cursor.ahead };
          holds = served.holds;
          entries = served.entries;
        }

    -- and ends at the foremost job where that is overdue
    pub filled_missed : (b i place : ℕ) (job : Ready) → Foremost table i job → job.rank.deadline ≤ suc s → place ≡ job.rank.place → Runs g jobs b (schedule slots) (missed place (suc s))
    filled_missed b i place job foremost overdue is =
        subst (λ k. Runs g jobs b (schedule slots) (missed k (suc s))) (sym is) (overdue_missed g jobs line_by_place (schedule slots) s n table keeping served.holds served.cursor b i job served.underway foremost overdue)

  -- the end, with every deadline met
  pub filled_met : (slots : List ℕ) (b n : ℕ) (table : List (Option Ready)) → DueBy jobs b → Filled g jobs line_by_place slots b n table → Runs g jobs b (schedule slots) met
  filled_met slots b n table due filled = underway_met g jobs (schedule slots) b due filled.underway filled.done
