use Rattle.grammar.specs.Supplies.{bottom_checks, share_checks}
use Rattle.refusal.proofs.Checks.{refusal_first}
use Rattle.sheet.proofs.supplies.supply_of.Goals as goal
use Rattle.std.proofs.lemmas.Result.{err_from_is_err_and}

pub returns-in_err-bottom : goal.returns-in_err-bottom
returns-in_err-bottom c =
    let p = err_from_is_err_and c.from_residual.result c.from_residual.ensures.1 in
    let fields = c.args.fields in
    rw (p.1, p.2) (record { named_or_refused_by_checks = refusal_first (bottom_checks fields) (share_checks fields) _ c.in_err-bottom.ensures })
