use Rattle.analysis.specs.History.{Reached, opened}
use Rattle.roster.proofs.Going.{calls_more, reached_more}
use Rattle.roster.proofs.history.after.Goals as goal
use Rattle.roster.specs.Calling.{call_of}
use Rattle.roster.specs.Working.{rows_in, watched_in}
use Rattle.std.proofs.Common.{[], map, take, sym, refl, subst, arith}
use Rattle.std.proofs.lemmas.Grind.{common_steps}

pub loop-call-init : goal.loop-call-init
loop-call-init g c =
    let roster = c.open-roster.result in
    let m = g.S.Supply.meaning roster.supply in
    (refl, subst (λ rows. Reached m [] rows (watched_in roster)) (sym c.open-roster.ensures.holds_no_line) (subst (λ ds. Reached m [] [] ds) (sym c.open-roster.ensures.watches_nothing) opened))

pub loop-call-preserved : goal.loop-call-preserved
loop-call-preserved g c =
    let calls = c.args.calls.now in
    let i = c.loop-call.call-index in
    let s = c.open-roster.result.supply in
    let after = c.make.new.self in
    let more = reached_more g.S.Supply.meaning s c.loop-call.roster after (map call_of (take i calls)) _ c.make.result _ c.make.ensures.works_as_that_call c.loop-call.invariant in
    (more.0, subst (λ cs. Reached (g.S.Supply.meaning s) cs (rows_in after) (watched_in after)) (calls_more call_of calls i _ c.loop-call-test.true) more.1)

pub returns-clause-reached_by_the_calls : goal.returns-clause-reached_by_the_calls
returns-clause-reached_by_the_calls g c = grind (arith, common_steps)
