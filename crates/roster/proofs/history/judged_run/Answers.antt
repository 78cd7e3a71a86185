use Rattle.std.proofs.Common.{length, IfOk}
use Rattle.refusal.specs.Answers.{Answered}
use Rattle.roster.proofs.Carrying.{carried}
use Rattle.roster.proofs.Fitting.{fitting}
use Rattle.roster.proofs.history.judged_run.Goals as goal
use Rattle.run.specs.Checks.{run_checks}
use Rattle.run.specs.Promise.{ByLaw, WellWritten, MetExactly, MissFinal}

pub returns-clause-keeps_the_supply : goal.returns-clause-keeps_the_supply
returns-clause-keeps_the_supply g c = c.judged-roster.ensures.keeps_the_supply

pub returns-clause-reached_by_the_calls : goal.returns-clause-reached_by_the_calls
returns-clause-reached_by_the_calls g c = c.judged-roster.ensures.reached_by_the_calls

pub returns-clause-lines_follow_from_calls : goal.returns-clause-lines_follow_from_calls
returns-clause-lines_follow_from_calls g c = c.judged-roster.ensures.lines_follow_from_calls

pub returns-clause-verdict_is_that_of_the_roster : goal.returns-clause-verdict_is_that_of_the_roster
returns-clause-verdict_is_that_of_the_roster g c = c.judged-roster.ensures.verdict_is_that_of_the_roster

pub returns-clause-verdict_is_exact : goal.returns-clause-verdict_is_exact
returns-clause-verdict_is_exact g c = c.judged-roster.ensures.verdict_is_exact

pub returns-clause-refused_by_checks : goal.returns-clause-refused_by_checks
returns-clause-refused_by_checks g c =
    carried (λ s rows. Answered c.run-run.result (run_checks rows c.args.jobs.now (length c.args.slots.now)) (λ _. Unit {0})) c.judged-roster.ensures.keeps_the_supply c.judged-roster.ensures.lines_follow_from_calls c.run-run.ensures.refused_by_checks

pub returns-clause-refusal_leaves_slots : goal.returns-clause-refusal_leaves_slots
returns-clause-refusal_leaves_slots g c = c.run-run.ensures.refusal_leaves_slots

pub returns-clause-slots_follow_edf : goal.returns-clause-slots_follow_edf
returns-clause-slots_follow_edf g c =
    carried (λ s rows. IfOk c.run-run.result (λ o. ByLaw (g.S.Supply.meaning s) c.args.phase rows c.args.jobs.now c.run-run.new.slots o)) c.judged-roster.ensures.keeps_the_supply c.judged-roster.ensures.lines_follow_from_calls c.run-run.ensures.slots_follow_edf

pub returns-clause-entries_well_written : goal.returns-clause-entries_well_written
returns-clause-entries_well_written g c =
    carried (λ s rows. IfOk c.run-run.result (λ o. WellWritten (g.S.Supply.meaning s) c.args.phase rows c.args.jobs.now c.run-run.new.slots o)) c.judged-roster.ensures.keeps_the_supply c.judged-roster.ensures.lines_follow_from_calls c.run-run.ensures.entries_well_written

pub returns-clause-met_exactly : goal.returns-clause-met_exactly
returns-clause-met_exactly g c =
    carried (λ s rows. IfOk c.run-run.result (λ o. MetExactly (g.S.Supply.meaning s) c.args.phase rows c.args.jobs.now c.run-run.new.slots o)) c.judged-roster.ensures.keeps_the_supply c.judged-roster.ensures.lines_follow_from_calls c.run-run.ensures.met_exactly

pub returns-clause-miss_is_final : goal.returns-clause-miss_is_final
returns-clause-miss_is_final g c =
    carried (λ s rows. IfOk c.run-run.result (λ o. MissFinal (g.S.Supply.meaning s) c.args.phase rows c.args.jobs.now o)) c.judged-roster.ensures.keeps_the_supply c.judged-roster.ensures.lines_follow_from_calls c.run-run.ensures.miss_is_final

pub returns-clause-fitting_lines_meet_all : goal.returns-clause-fitting_lines_meet_all
returns-clause-fitting_lines_meet_all g c fits legal =
    let s = c.args.supply in
    fitting (g.S.Supply.meaning s) (g.met.S.Supply.counts s).0 _ _ c.judged-roster.ensures.verdict_is_exact fits c.args.jobs.now legal c.args.phase c.run-run.new.slots c.run-run.result (returns-clause-slots_follow_edf g c)
