use Rattle.embed.proofs.calls.run_on.Goals as goal
use Rattle.embed.specs.Promises.{refused, ran}
use Rattle.std.proofs.Common.{Ok, Err, refl, rules}
use Rattle.std.proofs.lemmas.Result.{err_from_is_err_and}

pub returns-in_err-roster : goal.returns-in_err-roster
returns-in_err-roster c =
    let p = err_from_is_err_and c.from_residual.result c.from_residual.ensures.1 in
    rw (p.1, p.2) (refused c.in_err-roster.field-0.0 c.in_err-roster.ensures.read_by_the_grammar refl)

pub returns-in_err-run : goal.returns-in_err-run
returns-in_err-run c =
    let p = err_from_is_err_and c.from_residual-in_err-run.result c.from_residual-in_err-run.ensures.1 in
    let leaves = c.in_ok-roster.ensures.read_by_the_grammar in
    let said = c.in_err-run.ensures in
    let meets = said.fitting_lines_meet_all _ leaves.calls_are_its_history in
    rw (p.1, p.2) (ran c.in_ok-roster.roster (Err c.in_err-run.field-0.0) leaves (search rules))

pub returns : goal.returns
returns c =
    let leaves = c.in_ok-roster.ensures.read_by_the_grammar in
    let said = c.in_ok-run.ensures in
    let meets = said.fitting_lines_meet_all _ leaves.calls_are_its_history in
    ran c.in_ok-roster.roster (Ok c.in_ok-run.field-0) leaves (search rules)
