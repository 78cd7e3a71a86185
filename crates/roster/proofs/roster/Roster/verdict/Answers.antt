use Rattle.analysis.proofs.Reaching.{verdict_exact}
use Rattle.roster.proofs.Walking.{verdict_by}
use Rattle.roster.proofs.roster.Roster.verdict.Goals as goal
use Rattle.roster.specs.Working.{rows_in, watched_in}
use Rattle.std.proofs.Common.{None}

pub returns-in_err-d-clause-exact_after_any_calls : goal.returns-in_err-d-clause-exact_after_any_calls
returns-in_err-d-clause-exact_after_any_calls g c =
    let self = c.args.self.now in
    let met = g.met.S.Supply in
    rw c.from_residual.ensures (λ calls h. verdict_exact (g.S.Supply.meaning self.supply) (record { counts = met.counts self.supply; windows = met.windows self.supply; attained = met.attained self.supply }) calls (rows_in self) (watched_in self) h None c.in_err-d.ensures)

pub returns-clause-exact_after_any_calls : goal.returns-clause-exact_after_any_calls
returns-clause-exact_after_any_calls g c calls h =
    let self = c.args.self.now in
    let met = g.met.S.Supply in
    let over = c.in_ok-d.ensures in
    let says = verdict_by (g.S.Supply.meaning self.supply) (rows_in self) (watched_in self) c.in_ok-d.d over.0 over.1 c.first_overload.result c.first_overload.ensures in
    verdict_exact (g.S.Supply.meaning self.supply) (record { counts = met.counts self.supply; windows = met.windows self.supply; attained = met.attained self.supply }) calls (rows_in self) (watched_in self) h c.first_overload.result says
