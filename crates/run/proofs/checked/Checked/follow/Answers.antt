use Rattle.std.proofs.Common.{◌≡◌, ◌<◌, ◌≤◌, length, set, sym, ap, ◌∙◌, subst, add-one, arith}
use Rattle.edf.specs.Run.{Runs, missed}
use Rattle.lines.specs.Of.{rows_of}
use Rattle.run.proofs.Filling.{Filled, Served, all_clear, given_counting, count_given, count_not_given, filled_none, filled_admitted, served_small, served_not_given, served_given, filled_more, filled_missed, filled_met}
use Rattle.run.proofs.Passing.{due_by_horizon}
use Rattle.run.proofs.checked.Checked.follow.Given as given
use Rattle.run.proofs.checked.Checked.follow.Goals as goal
use Rattle.run.proofs.checked.Checked.follow.Goals.{then-after-before, else-after-before, After-overdue}
use Rattle.run.specs.Slots.{given_in, entry_for, schedule, Entries}
use Rattle.run.specs.Listed.{jobs_of, line_of}
use Rattle.run.specs.Timed.{timed}
use Rattle.run.specs.declared.table.Table.{Table}
use Rattle.std.proofs.lemmas.List.{length-map}

pub loop-s-init : goal.loop-s-init
loop-s-init g c =
    let meaning = g.S.Supply.meaning c.args.supply.now in
    let given = given_in meaning c.args.phase in
    let rows = rows_of c.args.self.now.lines.now in
    let jobs = c.args.self.now.jobs.now in
    let cleared = c.fill.ensures.after (λ y e. e) in
    let counting = given_counting meaning c.args.phase (g.met.S.Supply.counts c.args.supply.now) in
    (filled_none given (jobs_of c.args.self.now) (line_of c.args.self.now) c.args.self.now.keeping c.fill.new.self c.none-table.result.jobs (λ s. rw cleared (all_clear (length c.args.slots.now) s)) c.none-table.ensures, sym counting.starts)

pub entry_for-requires : goal.entry_for-requires
entry_for-requires g c =
    let given = given_in (g.S.Supply.meaning c.args.supply.now) c.args.phase in
    let jobs = jobs_of c.args.self.now in
    let lines = line_of c.args.self.now in
    let filled = c.loop-s.invariant.0 in
    let held = filled_admitted given jobs lines c.args.self.now.keeping _ _ _ _ filled c.admit-next.result c.admit-next.new.table.jobs c.admit-next.ensures.table in
    served_small given jobs lines c.args.self.now.keeping _ _ _ _ filled _ _ c.admit-next.ensures.place held c.serve.result c.serve.new.self.jobs c.serve.ensures (omega (arith, c.args.self.now.few, length-map c.args.self.now.jobs.now (timed (rows_of c.args.self.now.lines.now))))

-- the slot is filled, whether it is given or not
filled_slot : (g : given.Over) (c : After-overdue g) → Served (given_in (g.S.Supply.meaning c.args.supply.now) c.args.phase) (jobs_of c.args.self.now) (line_of c.args.self.now) c.if-after-before.slots c.loop-s.s c.admit-next.result c.if-after-before.table.jobs
filled_slot g c =
    let meaning = g.S.Supply.meaning c.args.supply.now in
    let given = given_in meaning c.args.phase in
    let jobs = jobs_of c.args.self.now in
    let lines = line_of c.args.self.now in
    let slots = c.loop-s.slots in
    let s = c.loop-s.s in
    let filled = c.loop-s.invariant.0 in
    let held = filled_admitted given jobs lines c.args.self.now.keeping slots s c.loop-s.next c.loop-s.table.jobs filled c.admit-next.result c.admit-next.new.table.jobs c.admit-next.ensures.table in
    elim c.if-after-before.branch [
      | then-after-before w ↦
          let rises = count_given meaning c.args.phase s c.loop-s.before c.count-after.result (g.met.S.Supply.counts c.args.supply.now) c.loop-s.invariant.1 c.count-after.ensures.counts_given_slots w.if-after-before.true in
          let there : s < length slots = omega (arith, c.loop-s-test.true, c.requires, c.loop-s.auto.slots) in
          let few : length jobs ≤ 2048 = omega (arith, c.args.self.now.few, length-map c.args.self.now.jobs.now (timed (rows_of c.args.self.now.lines.now))) in
          let served = served_given given jobs lines c.args.self.now.keeping slots s c.loop-s.next c.loop-s.table.jobs filled c.admit-next.result c.admit-next.new.table.jobs c.admit-next.ensures.place held there rises w.serve.result w.serve.new.self.jobs w.serve.ensures few in
          let wrote : c.if-after-before.slots ≡ set slots s (entry_for w.serve.result) = w.slots-is ∙ ap (λ i. set slots i w.entry_for.result) w.from.ensures ∙ ap (set slots s) w.entry_for.ensures in
          let table : c.if-after-before.table.jobs ≡ w.serve.new.self.jobs = ap (λ (t : Table). t.jobs) w.table-is in
          subst (λ x. Served given jobs lines x s c.admit-next.result c.if-after-before.table.jobs) (sym wrote) (subst (Served given jobs lines (set slots s (entry_for w.serve.result)) s c.admit-next.result) (sym table) served)
      | else-after-before w ↦
          let stays = count_not_given meaning c.args.phase s c.loop-s.before c.count-after.result c.loop-s.invariant.1 c.count-after.ensures.counts_given_slots w.if-after-before.false in
          let served = served_not_given given jobs lines c.args.self.now.keeping slots s c.loop-s.next c.loop-s.table.jobs filled c.admit-next.result c.admit-next.new.table.jobs c.admit-next.ensures.place held stays in
          let table : c.if-after-before.table.jobs ≡ c.admit-next.new.table.jobs = ap (λ (t : Table). t.jobs) w.table-is in
          subst (λ x. Served given jobs lines x s c.admit-next.result c.if-after-before.table.jobs) (sym w.slots-is) (subst (Served given jobs lines slots s c.admit-next.result) (sym table) served)
    ]

pub returns-in-Some : goal.returns-in-Some
returns-in-Some g c =
    let given = given_in (g.S.Supply.meaning c.args.supply.now) c.args.phase in
    let jobs = jobs_of c.args.self.now in
    let lines = line_of c.args.self.now in
    let slots = c.if-after-before.slots in
    let served = filled_slot g (goal.at.returns-in-Some g c).After-overdue in
    let late = c.in-Some.ensures in
    let missed-next = filled_missed given jobs lines c.args.self.now.keeping slots c.loop-s.s _ _ served c.args.self.now.last_deadline late.0 c.in-Some.job late.1 late.2 (omega (arith, late.3, add-one c.loop-s.s)) late.4 in
    record {
      runs = subst (λ d. Runs given jobs c.args.self.now.last_deadline (schedule slots) (missed c.in-Some.job d)) (sym (add-one c.loop-s.s)) missed-next;
      entries = subst (Entries given slots) (sym (add-one c.loop-s.s)) served.entries;
    }

pub loop-s-preserved : goal.loop-s-preserved
loop-s-preserved g c =
    let given = given_in (g.S.Supply.meaning c.args.supply.now) c.args.phase in
    let jobs = jobs_of c.args.self.now in
    let lines = line_of c.args.self.now in
    let served = filled_slot g (goal.at.loop-s-preserved g c).After-overdue in
    let later = c.in_default.ensures in
    let filled = filled_more given jobs lines c.args.self.now.keeping c.if-after-before.slots c.loop-s.s _ _ served (λ i job w. omega (arith, later i job w, add-one c.loop-s.s)) in
    (subst (λ s. Filled given jobs lines c.if-after-before.slots s c.admit-next.result c.if-after-before.table.jobs) (sym (add-one c.loop-s.s)) filled, c.count-after.ensures.counts_given_slots)

pub returns-clause-runs : goal.returns-clause-runs
returns-clause-runs g c =
    let rows = rows_of c.args.self.now.lines.now in
    let given = given_in (g.S.Supply.meaning c.args.supply.now) c.args.phase in
    let jobs = jobs_of c.args.self.now in
    let lines = line_of c.args.self.now in
    let at : c.loop-s.s ≡ c.args.self.now.last_deadline = omega (arith, c.loop-s-test.false) in
    let filled = subst (λ s. Filled given jobs lines c.loop-s.slots s c.loop-s.next c.loop-s.table.jobs) at c.loop-s.invariant.0 in
    filled_met given jobs lines c.args.self.now.keeping c.loop-s.slots c.args.self.now.last_deadline c.loop-s.next c.loop-s.table.jobs (λ k l. omega (arith, due_by_horizon rows c.args.self.now.jobs.now k l, c.args.self.now.last)) filled
