use Rattle.analysis.proofs.Reaching.{lines_follow}
use Rattle.analysis.specs.History.{Reached}
use Rattle.analysis.specs.Verdict.{Verdict, ExactVerdict}
use Rattle.roster.proofs.history.judged.Goals as goal
use Rattle.roster.specs.Calling.{call_of, rows_from}
use Rattle.roster.specs.Working.{rows_in, watched_in}
use Rattle.std.proofs.Common.{map, sym, subst}

pub returns-clause-keeps_the_supply : goal.returns-clause-keeps_the_supply
returns-clause-keeps_the_supply g c = c.after-roster.ensures.keeps_the_supply

pub returns-clause-reached_by_the_calls : goal.returns-clause-reached_by_the_calls
returns-clause-reached_by_the_calls g c = c.after-roster.ensures.reached_by_the_calls

pub returns-clause-lines_follow_from_calls : goal.returns-clause-lines_follow_from_calls
returns-clause-lines_follow_from_calls g c = lines_follow _ (map call_of c.args.calls.now) _ _ c.after-roster.ensures.reached_by_the_calls

pub returns-clause-verdict_is_that_of_the_roster : goal.returns-clause-verdict_is_that_of_the_roster
returns-clause-verdict_is_that_of_the_roster g c =
    let roster = c.after-roster.result in
    let m = g.S.Supply.meaning in
    subst (λ s. Verdict (m s) (rows_in roster) (watched_in roster) c.verdict-verdict.result) c.after-roster.ensures.keeps_the_supply c.verdict-verdict.ensures.least_overload_or_none

pub returns-clause-verdict_is_exact : goal.returns-clause-verdict_is_exact
returns-clause-verdict_is_exact g c =
    let roster = c.after-roster.result in
    let verdict = c.verdict-verdict.result in
    let calls = map call_of c.args.calls.now in
    let m = g.S.Supply.meaning in
    let reached = c.after-roster.ensures.reached_by_the_calls in
    let same = c.after-roster.ensures.keeps_the_supply in
    let here = subst (λ s. Reached (m s) calls (rows_in roster) (watched_in roster)) (sym same) reached in
    subst (λ s. ExactVerdict (m s) (rows_from c.args.calls.now) verdict) same (subst (λ rows. ExactVerdict (m roster.supply) rows verdict) (lines_follow _ calls _ _ reached) (c.verdict-verdict.ensures.exact_after_any_calls calls here))
