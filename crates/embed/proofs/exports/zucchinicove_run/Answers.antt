use Rattle.embed.proofs.Admitting.{never_missed}
use Rattle.embed.proofs.exports.zucchinicove_run.Goals as goal
use Rattle.embed.specs.Border.{run_as}
use Rattle.embed.specs.Promises.{NeverMissed}
use Rattle.std.proofs.Common.{◌≡◌, sym, subst, rules}

pub returns-clause-no_miss_where_it_fits : goal.returns-clause-no_miss_where_it_fits
returns-clause-no_miss_where_it_fits c =
    let told : c.into.result ≡ run_as c.run_on.result = search rules in
    subst (λ answer. NeverMissed c.args.bytes.now c.args.jobs.now answer) (sym told) (never_missed c.args.bytes.now _ c.args.jobs.now _ _ c.run_on.result c.run_on.ensures)
