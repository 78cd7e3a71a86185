use Rattle.embed.proofs.Admitting.{fits_exactly, refused_exactly}
use Rattle.embed.proofs.exports.zucchinicove_verdict.Goals as goal
use Rattle.embed.specs.Border.{verdict_as}
use Rattle.embed.specs.Promises.{FitsExactly, RefusedExactly}
use Rattle.std.proofs.Common.{◌≡◌, sym, subst, rules}

pub returns-clause-fits_exactly_where_all_lists_are_met : goal.returns-clause-fits_exactly_where_all_lists_are_met
returns-clause-fits_exactly_where_all_lists_are_met c =
    let told : c.into.result ≡ verdict_as c.judge.result = search rules in
    subst (λ answer. FitsExactly c.args.bytes.now answer) (sym told) (fits_exactly c.args.bytes.now c.judge.result c.judge.ensures)

pub returns-clause-refused_exactly_where_not_accepted : goal.returns-clause-refused_exactly_where_not_accepted
returns-clause-refused_exactly_where_not_accepted c =
    let told : c.into.result ≡ verdict_as c.judge.result = search rules in
    subst (λ answer. RefusedExactly c.args.bytes.now answer) (sym told) (refused_exactly c.args.bytes.now c.judge.result c.judge.ensures)
