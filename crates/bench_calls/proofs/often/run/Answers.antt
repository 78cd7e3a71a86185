use Rattle.bench_calls.proofs.Ended.{ended_by}
use Rattle.bench_calls.proofs.often.run.Goals as goal
use Rattle.bench_calls.specs.Promises.{lines_of, Ran}
use Rattle.lines.specs.declared.row.Row.{Row}
use Rattle.refusal.specs.Answers.{Answered}
use Rattle.roster.specs.Working.{rows_in}
use Rattle.run.specs.Checks.{run_checks}
use Rattle.run.specs.Promise.{ByLaw, WellWritten, MetExactly, MissFinal}
use Rattle.std.proofs.Common.{◌≡◌, List, length, IfOk, sym, subst, rules}
use Rattle.supply.specs.Whole.{whole}

pub returns : goal.returns
returns c =
    let jobs = c.args.jobs.now in
    let before = c.args.slots.now in
    let after = c.run-2.new.slots in
    let r = c.run-2.result in
    let said = c.run-2.ensures in
    let full : length c.args.lines.now ≡ 8 = search rules in
    let long : length c.loop.slots ≡ length before = search rules in
    let here : rows_in c.judged-roster.result.roster ≡ lines_of c.args.lines.now = search rules in
    let on = λ (holds : List Row → Type 0) (h : holds (rows_in c.judged-roster.result.roster)). subst holds here h in
    subst (Ran c.args.lines.now jobs before after) (sym c.ok-2.ensures.value) (
    ended_by c.args.lines.now jobs before c.loop.slots after full c.loop.invariant long r
    (on (λ rows. Answered r (run_checks rows jobs (length c.loop.slots)) (λ _. Unit {0})) said.refused_by_checks)
    said.refusal_leaves_slots
    (on (λ rows. IfOk r (λ o. ByLaw whole 0 rows jobs after o)) said.slots_follow_edf)
    (on (λ rows. IfOk r (λ o. WellWritten whole 0 rows jobs after o)) said.entries_well_written)
    (on (λ rows. IfOk r (λ o. MetExactly whole 0 rows jobs after o)) said.met_exactly)
    (on (λ rows. IfOk r (λ o. MissFinal whole 0 rows jobs o)) said.miss_is_final)
    )
