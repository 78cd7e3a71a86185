-- What the ready table says of the jobs: the foremost is first by the law, and what is overdue is late.
use Rattle.std.proofs.Common.{◌≡◌, ℕ, suc, ◌<◌, ◌≤◌, List, Option, length, sym, ◌∙◌, ⊎_elim, arith}
use Rattle.edf.proofs.Lateness.{late_due_now}
use Rattle.edf.proofs.Underway.{Underway, DoneAt, underway_missed}
use Rattle.edf.specs.Edf.{Pending, Before, First, Unfinished}
use Rattle.edf.specs.Jobs.{Job, job}
use Rattle.edf.specs.Run.{missed, Runs}
use Rattle.edf.specs.Schedule.{Schedule, service}
use Rattle.run.specs.Holding.{Keeping, Stands, Right, Holds, Cursor}
use Rattle.run.specs.Ready.{Waits, NoneWaits, Foremost}
use Rattle.run.specs.declared.ready.Ready.{Ready}
use Rattle.std.proofs.lemmas.Bool.{cases_lt}

module _ (jobs : List Job) (line_by_place : ℕ → ℕ) (σ : Schedule) (s n : ℕ) (table : List (Option Ready)) (holds : Holds jobs line_by_place σ s n table) where
  -- a job that waits is unfinished
  pub waits_unfinished : (i : ℕ) (ready : Ready) → Waits table i ready → Unfinished jobs σ ready.rank.place s
  waits_unfinished i ready w = let right = holds.only i ready w in omega (arith, right.wanting, right.stands.left)

  module _ (e : ℕ) (cursor : Cursor jobs s e n) where
    -- a job that waits is pending
    pub waits_pending : (i : ℕ) (ready : Ready) → Waits table i ready → Pending jobs σ s ready.rank.place
    waits_pending i ready w =
        let there = (holds.only i ready w).there in
        record {
          there = omega (arith, cursor.within);
          released = cursor.released ready.rank.place there;
          unfinished = waits_unfinished i ready w;
        }

  module _ (cursor : Cursor jobs s (suc s) n) where
    -- once all that are released by s are in the table, a pending job is among them
    pending_in : (k : ℕ) → Pending jobs σ s k → k < n
    pending_in k p =
        ⊎_elim (λ (l : k < n). l)
        (λ (from : n ≤ k). absurd (omega (arith, cursor.ahead k from p.there, p.released)))
        (cases_lt k n)

    -- where none waits, none is pending
    pub none_pending : NoneWaits table → (k : ℕ) → Pending jobs σ s k → ⊥
    none_pending none k p =
        let stood = holds.all k (pending_in k p) p.unfinished in
        none (line_by_place k) stood.0 stood.1

    -- the foremost job is first
    pub foremost_first : (i : ℕ) (ready : Ready) → Foremost table i ready → First jobs σ s ready.rank.place
    foremost_first i ready foremost = record { pending = waits_pending (suc s) cursor i ready foremost.waits; before = before }
      where
        mine : Stands jobs σ s ready.rank.place ready
        mine = (holds.only i ready foremost.waits).stands

        before : (k : ℕ) → Pending jobs σ s k → Before jobs ready.rank.place k
        before k p =
            let stood = holds.all k (pending_in k p) p.unfinished in
            let due = stood.2.deadline in
            let at = stood.2.place in
            let own = mine.deadline in
            let leads = foremost.leads (line_by_place k) stood.0 stood.1 in
            record { earlier = omega (arith, leads.earlier); lower = λ same. omega (arith, leads.lower (own ∙ same ∙ sym due)) }

module _ (g : ℕ → ℕ) (jobs : List Job) (line_by_place : ℕ → ℕ) (σ : Schedule) (s n : ℕ) (table : List (Option Ready)) (keeping : Keeping jobs line_by_place) (holds : Holds jobs line_by_place σ (suc s) n table) (cursor : Cursor jobs s (suc s) n) where
  -- an unfinished job that is due at the next instant is in the table
  due_in : (k : ℕ) → k < length jobs → (job jobs k).deadline ≡ suc s → k < n
  due_in k there due =
      ⊎_elim (λ (l : k < n). l)
      (λ (from : n ≤ k). absurd (omega (arith, cursor.ahead k from there, keeping.lasting k there)))
      (cases_lt k n)

  -- where all that wait are due later, every job that is due just then is finished
  pub none_overdue : ((i : ℕ) (ready : Ready) → Waits table i ready → suc s < ready.rank.deadline) → DoneAt jobs σ (suc s)
  none_overdue later k there due =
      let l = due_in k there due in
      let not : Unfinished jobs σ k (suc s) → ⊥ = λ un.
      let stood = holds.all k l un in
      omega (arith, stood.2.deadline, later (line_by_place k) stood.0 stood.1) in
      omega arith

  -- the foremost job, where it is overdue, is the first miss
  pub overdue_missed : (b i : ℕ) (ready : Ready) → Underway g jobs σ (suc s) → Foremost table i ready → ready.rank.deadline ≤ suc s → Runs g jobs b σ (missed ready.rank.place (suc s))
  overdue_missed b i ready run foremost overdue = underway_missed g jobs σ b ready.rank.place (suc s) run there due un lower
    where
      right : Right jobs line_by_place σ (suc s) n i ready
      right = holds.only i ready foremost.waits

      there : ready.rank.place < length jobs
      there = omega (arith, right.there, cursor.within)

      un : Unfinished jobs σ ready.rank.place (suc s)
      un = waits_unfinished jobs line_by_place σ (suc s) n table holds i ready foremost.waits

      due : (job jobs ready.rank.place).deadline ≡ suc s
      due = late_due_now jobs σ (suc s) ready.rank.place run.on_time (record { there = there; due = omega (arith, right.stands.deadline); unfinished = un })

      lower : (j : ℕ) → j < ready.rank.place → (job jobs j).deadline ≡ suc s → (job jobs j).cost ≤ service σ j (suc s)
      lower j l at =
          let here = due_in j (omega (arith, there)) at in
          let finished : Unfinished jobs σ j (suc s) → ⊥ = λ late.
          let stood = holds.all j here late in
          let leads = foremost.leads (line_by_place j) stood.0 stood.1 in
          omega (arith, stood.2.place, leads.lower (right.stands.deadline ∙ due ∙ sym at ∙ sym stood.2.deadline)) in
          omega arith
