use Rattle.roster.proofs.Witnessed.{front_unmet}
use Rattle.roster.proofs.roster.Roster.witness.Goals as goal
use Rattle.roster.specs.Working.{rows_in}
use Rattle.analysis.specs.Verdict.{ExactVerdict}
use Rattle.std.proofs.Common.{◌≡◌, Some, subst, rules}

pub returns-clause-no_schedule_meets_it : goal.returns-clause-no_schedule_meets_it
returns-clause-no_schedule_meets_it g c calls reached =
    let self = c.args.self.now in
    let overload : c.verdict.result ≡ Some c.in_ok-t.t = search rules in
    let exact = subst (ExactVerdict (g.S.Supply.meaning self.supply) (rows_in self)) overload (c.verdict.ensures.exact_after_any_calls calls reached) in
    front_unmet (g.S.Supply.meaning self.supply) (rows_in self) c.in_ok-t.t exact c.write_released.new.list c.args.list.now c.number_released-number.result c.least-phase.result.1 c.write_released.ensures c.number_released-number.ensures c.least-phase.ensures.phase_with_so_few
