use Rattle.analysis.specs.History.{strike}
use Rattle.std.proofs.Common.{◌<◌, ◌≤◌, length, Err, refl, ap, ◌∙◌, arith}
use Rattle.lines.specs.Rest.{full_list}
use Rattle.roster.proofs.Missing.{missing, there}
use Rattle.roster.proofs.Passing.{works_by}
use Rattle.roster.proofs.roster.Roster.strike.Goals as goal
use Rattle.roster.specs.Working.{rows_in}
use Rattle.std.proofs.lemmas.Result.{err_from_is_err_and}
use Rattle.std.specs.List.{remove}

pub returns-in_err-lines : goal.returns-in_err-lines
returns-in_err-lines g c =
    let p = err_from_is_err_and c.from_residual.result c.from_residual.ensures.1 in
    let none = missing _ _ c.remove.result c.at-missing.result c.in_err-lines.field-0.0 c.remove.ensures.gap_closed_or_none_where_absent c.in_err-lines.ensures.value in
    let gone : length (rows_in c.args.self.now) ≤ c.args.number = omega (arith, none.0, c.from-2.ensures) in
    let by = c.by.ensures.layer_and_reason_at_place_0 in
    let at = c.at-missing.ensures.place_alone_is_new in
    let place = c.from.ensures in
    let why = none.1 in
    rw (p.1, p.2) (record { removed_or_refused_by_checks = works_by _ c.args.self.now c.args.self.now (strike c.args.number) (Err c.in_err-lines.field-0.0) _ (grind arith) refl refl refl })

pub returns : goal.returns
returns g c =
    let made = there _ _ c.remove.result c.at-missing.result _ c.remove.ensures.gap_closed_or_none_where_absent c.in_ok-lines.ensures.value in
    let number = c.from-2.ensures in
    let there : c.args.number < length (rows_in c.args.self.now) = omega (arith, made.0) in
    let rows = made.1 ∙ ap (remove (rows_in c.args.self.now)) number in
    record { removed_or_refused_by_checks = works_by _ c.args.self.now _ (strike c.args.number) _ _ (grind arith, tt) rows (made.2 ∙ ap full_list rows) refl }
