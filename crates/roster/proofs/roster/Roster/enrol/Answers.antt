use Rattle.analysis.specs.History.{enrol}
use Rattle.roster.proofs.Passing.{works_by}
use Rattle.roster.proofs.roster.Roster.enrol.Goals as goal
use Rattle.lines.specs.Rest.{full_list}
use Rattle.std.proofs.lemmas.Result.{err_from_is_err_and}
use Rattle.std.proofs.Common.{Err, refl, ap, ◌∙◌}

pub returns-in_err-lines : goal.returns-in_err-lines
returns-in_err-lines g c =
    let p = err_from_is_err_and c.from_residual.result c.from_residual.ensures.1 in
    rw (p.1, p.2) (record { added_last_or_refused_by_checks = works_by _ c.args.self.now c.args.self.now (enrol c.args.row) (Err c.in_err-lines.field-0.0) _ c.in_err-lines.ensures.added_last_or_refused_by_checks refl refl refl })

pub returns : goal.returns
returns g c =
    let made = c.in_ok-lines.ensures.added_last_or_refused_by_checks in
    record { added_last_or_refused_by_checks = works_by _ _ _ (enrol c.args.row) _ _ (made.0, c.len-number.ensures.counts_lines) made.1.0 (made.1.1 ∙ ap full_list made.1.0) refl }
