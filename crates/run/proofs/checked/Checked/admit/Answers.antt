use Rattle.std.proofs.Common.{◌≡◌, suc, ◌+◌, ◌-◌, ◌≤◌, length, set, take, drop, Some, refl, ap, ◌∙◌, subst, arith}
use Rattle.edf.specs.Jobs.{job}
use Rattle.lines.specs.Of.{rows_of}
use Rattle.run.proofs.Admitting.{cursor_more, cursor_all, admits_more}
use Rattle.run.proofs.Ahead.{ahead_is}
use Rattle.run.proofs.Passing.{due_by_horizon}
use Rattle.run.proofs.checked.Checked.admit.Goals as goal
use Rattle.run.specs.Holding.{Admits}
use Rattle.run.specs.Timed.{at, line_at, timed, timed_list}
use Rattle.run.specs.declared.ready.Ready.{Ready}
use Rattle.std.proofs.lemmas.Grind.{common_steps}
use Rattle.std.proofs.lemmas.List.{length-map, length-take, length-drop}

pub returns-then-job-at-clause-place : goal.returns-then-job-at-clause-place
returns-then-job-at-clause-place c =
    let rows = rows_of c.args.self.now.lines.now in
    let jobs = c.args.self.now.jobs.now in
    let here = ahead_is rows jobs c.args.from c.loop-ahead.ahead c.loop-ahead-test.true in
    cursor_all (timed_list rows jobs) (line_at jobs) c.args.self.now.keeping c.args.at (c.args.from + c.loop-ahead.ahead) c.loop-ahead.invariant.0 (λ l. omega (arith, c.if-job-at.true, here.release))

pub deadline_of-requires : goal.deadline_of-requires
deadline_of-requires c =
    let list = c.args.self.now in
    let rows = rows_of list.lines.now in
    let here = ahead_is rows list.jobs.now c.args.from c.loop-ahead.ahead c.loop-ahead-test.true in
    omega (arith, here.deadline, due_by_horizon rows list.jobs.now (c.args.from + c.loop-ahead.ahead) here.there, list.last, list.within)

pub put-requires : goal.put-requires
put-requires c =
    let list = c.args.self.now in
    let here = ahead_is (rows_of list.lines.now) list.jobs.now c.args.from c.loop-ahead.ahead c.loop-ahead-test.true in (
      omega (arith, list.keeping.lined _ here.there, c.from.ensures, here.line),
      omega (arith, list.keeping.wanting _ here.there, here.cost),
    )

pub loop-ahead-preserved : goal.loop-ahead-preserved
loop-ahead-preserved c =
    let list = c.args.self.now in
    let rows = rows_of list.lines.now in
    let jobs = list.jobs.now in
    let all = timed_list rows jobs in
    let n = c.args.from + c.loop-ahead.ahead in
    let table = c.loop-ahead.table.jobs in
    let here = ahead_is rows jobs c.args.from c.loop-ahead.ahead c.loop-ahead-test.true in
    let ready : Ready = record { rank = record { deadline = c.deadline_of.result; place = n }; left = (at (take (length jobs - c.args.from) (drop c.args.from jobs)) c.loop-ahead.ahead).cost } in
    let released : (job all n).release ≤ c.args.at = omega (arith, c.if-job-at.false, here.release) in
    let put : c.put.new.self.jobs ≡ set table (line_at jobs n) (Some ready) = c.put.ensures ∙ ap (λ i. set table i (Some ready)) (c.from.ensures ∙ here.line) in
    let next : suc n ≡ c.args.from + (c.loop-ahead.ahead + 1) = omega arith in
    let cursor = cursor_more all (line_at jobs) list.keeping c.args.at n c.loop-ahead.invariant.0 here.there released in
    let admits = admits_more all (line_at jobs) list.keeping c.args.at c.args.from n c.args.table.now.jobs table ready c.loop-ahead.table.room here.there c.loop-ahead.invariant.0 released refl (c.deadline_of.ensures ∙ here.deadline) here.cost c.loop-ahead.invariant.1 in
    rw (← next, put) (cursor, admits)

pub returns-clause-table : goal.returns-clause-table
returns-clause-table c =
    let jobs = c.args.self.now.jobs.now in
    let all = timed_list (rows_of c.args.self.now.lines.now) jobs in
    let end : c.args.from + c.loop-ahead.ahead ≡ length jobs = omega (arith, c.loop-ahead-test.false, c.loop-ahead.invariant.0.within, length-map jobs (timed (rows_of c.args.self.now.lines.now)), length-take (length jobs - c.args.from) (drop c.args.from jobs), length-drop c.args.from jobs) in
    subst (λ m. Admits all (line_at jobs) c.args.at c.args.from c.args.table.now.jobs m c.loop-ahead.table.jobs) end c.loop-ahead.invariant.1

pub offset_bounds-self-from : goal.offset_bounds-self-from
offset_bounds-self-from c = grind (arith, common_steps)

pub returns-clause-place : goal.returns-clause-place
returns-clause-place c = grind (arith, common_steps)
