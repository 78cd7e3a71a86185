-- The foremost job waits at its line, so it wants a slot, and its place is in the table.
use Rattle.run.proofs.Holding.{waits_there, served_is}
use Rattle.run.proofs.Leading.{Tells, tells_idle, tells_leads, foremost_served, foremost_there, written_waits}
use Rattle.run.proofs.table.Table.serve.Goals as goal
use Rattle.run.proofs.table.Table.serve.Goals.{in-Some, in-None}
use Rattle.std.proofs.Common.{◌<◌, set, rules, sym, ap, ◌∙◌, arith}
use Rattle.run.specs.declared.ready.Ready.{Ready}

pub served-left-requires : goal.served-left-requires
served-left-requires c = let leads = c.args.self.now.leads _ c.in_ok-line.was in c.args.self.now.wanting _ _ leads.waits

pub offset_bounds-self-line : goal.offset_bounds-self-line
offset_bounds-self-line c = let there = foremost_there _ _ _ c.args.self.now.room (c.args.self.now.leads _ c.in_ok-line.was) in omega arith

pub bounds-self-line : goal.bounds-self-line
bounds-self-line c = foremost_there _ _ _ c.args.self.now.room (c.args.self.now.leads _ c.in_ok-line.was)

-- a job that wants another slot stays the foremost, and else the table is looked through
tells : (c : goal.Joined-left) → Tells (set c.args.self.now.jobs c.in_ok-line.line c.served-left.result) c.match-left.self
tells c =
    let jobs = c.args.self.now.jobs in
    let leads = c.args.self.now.leads _ c.in_ok-line.was in
    elim c.match-left.branch [
      | in-Some w ↦
          let more = served_is c.in_ok-line.job w.in-Some.job (sym c.served-left.ensures ∙ w.in-Some.is) in
          rw (w.self-is, w.in-Some.is, more.1) (foremost_served jobs c.in_ok-line.line c.in_ok-line.job leads)
      | in-None w ↦ rw w.self-is w.foremost_of-self.ensures
    ]

pub invariant_of-self-clause-wanting : goal.invariant_of-self-clause-wanting
invariant_of-self-clause-wanting c =
    let leads = c.args.self.now.leads _ c.in_ok-line.was in
    let there = waits_there c.args.self.now.jobs c.in_ok-line.line c.in_ok-line.job leads.waits in
    written_waits _ _ _ there (λ ready. 0 < ready.left) (λ ready e. let more = served_is c.in_ok-line.job ready (sym c.served-left.ensures ∙ e) in omega (arith, more.0, ap (λ (r : Ready). r.left) more.1)) c.args.self.now.wanting

pub invariant_of-self-clause-idle : goal.invariant_of-self-clause-idle
invariant_of-self-clause-idle c = tells_idle _ _ (tells c)

pub invariant_of-self-clause-leads : goal.invariant_of-self-clause-leads
invariant_of-self-clause-leads c = tells_leads _ _ (tells c)

pub returns : goal.returns
returns c = let leads = c.args.self.now.leads _ c.in_ok-line.was in search rules
