use Rattle.analysis.specs.History.{cut}
use Rattle.roster.proofs.Passing.{works_by}
use Rattle.roster.proofs.roster.Roster.cut.Goals as goal
use Rattle.roster.specs.Certificate.{cites_of}
use Rattle.std.proofs.lemmas.Result.{err_from_is_err_and}
use Rattle.std.proofs.Common.{Err, refl}

pub returns-in_err-certified : goal.returns-in_err-certified
returns-in_err-certified g c =
    let p = err_from_is_err_and c.from_residual.result c.from_residual.ensures.1 in
    rw (p.1, p.2) (record { deadline_leaves_or_refused_by_checks = works_by _ c.args.self.now c.args.self.now (cut c.args.deadline c.args.divisor (cites_of c.args.cites.now)) (Err c.in_err-certified.field-0.0) _ c.in_err-certified.ensures refl refl refl })

pub returns : goal.returns
returns g c =
    record { deadline_leaves_or_refused_by_checks = works_by _ c.args.self.now _ (cut c.args.deadline c.args.divisor (cites_of c.args.cites.now)) _ _ c.in_ok-certified.ensures refl c.without-self.ensures.that_deadline_alone_leaves refl }
