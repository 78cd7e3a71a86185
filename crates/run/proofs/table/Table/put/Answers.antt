-- The job that is put is ahead of the foremost one, or behind it; where the foremost one stood at its line, the table is looked through.
use Rattle.run.proofs.Leading.{Tells, tells_idle, tells_leads, foremost_alone, foremost_ahead, foremost_stays, same_line, written_waits}
use Rattle.run.proofs.table.Table.put.Goals as goal
use Rattle.run.proofs.table.Table.put.Goals.{in-None, in-Some, in-Some-2, in_default}
use Rattle.run.specs.declared.ready.Ready.{Ready}
use Rattle.std.proofs.Common.{◌≡◌, ◌<◌, ◌≢◌, set, length, Some, sym, ◌∙◌, subst, arith}

tells : (c : goal.Joined-before) → Tells (set c.args.self.now.jobs c.args.line (Some c.args.job)) c.match-before.self
tells c =
    let table = c.args.self.now in
    let room : c.args.line < length table.jobs = omega (arith, c.requires.0, table.room) in
    elim c.match-before.branch [
      | in-None w ↦ rw w.self-is (foremost_alone table.jobs c.args.line c.args.job room (table.idle w.in-None.is))
      | in-Some w ↦ rw w.self-is w.foremost_of-self.ensures
      | in-Some-2 w ↦
          let lt = sym w.lt.ensures ∙ w.if-lt.true in
          rw w.self-is (foremost_ahead table.jobs c.args.line c.args.job room w.in-Some-2.field-0-0 w.in-Some-2.first (table.leads _ w.in-Some-2.is) (record { earlier = grind arith; lower = λ same. grind arith }))
      | in_default w ↦
          let lt = sym w.lt.ensures ∙ w.if-lt.false in
          let same : w.in-Some.other ≡ w.in-Some-2.field-0-0 = same_line _ _ (sym w.in-Some.is ∙ w.in-Some-2.is) in
          let apart : w.in-Some-2.field-0-0 ≢ c.args.line = λ e. let here = same ∙ e in grind arith in
          rw (w.self-is, w.in-Some-2.is) (foremost_stays table.jobs c.args.line c.args.job room w.in-Some-2.field-0-0 w.in-Some-2.first (table.leads _ w.in-Some-2.is) apart (record { earlier = grind arith; lower = λ same. grind arith }))
    ]

pub invariant_of-self-clause-wanting : goal.invariant_of-self-clause-wanting
invariant_of-self-clause-wanting c =
    let table = c.args.self.now in
    written_waits table.jobs c.args.line (Some c.args.job) (omega (arith, c.requires.0, table.room)) (λ ready. 0 < ready.left) (λ ready e. let same : c.args.job ≡ ready = cc in subst (λ (r : Ready). 0 < r.left) same c.requires.1) table.wanting

pub invariant_of-self-clause-idle : goal.invariant_of-self-clause-idle
invariant_of-self-clause-idle c = tells_idle _ _ (tells c)

pub invariant_of-self-clause-leads : goal.invariant_of-self-clause-leads
invariant_of-self-clause-leads c = tells_leads _ _ (tells c)
