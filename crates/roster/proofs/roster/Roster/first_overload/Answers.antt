use Rattle.roster.proofs.Walking.{fine_none, fine_all}
use Rattle.roster.proofs.roster.Roster.first_overload.Goals as goal
use Rattle.roster.specs.Working.{rows_in}
use Rattle.std.proofs.Common.{arith}

pub loop-d-init : goal.loop-d-init
loop-d-init g c = (omega arith, fine_none (g.S.Supply.meaning c.args.self.now.supply) (rows_in c.args.self.now) c.args.self.now.lines.lawful)

pub returns : goal.returns
returns g c =
    let s = c.args.self.now.supply in
    let met = g.met.S.Supply in
    fine_all _ _ (record { counts = met.counts s; windows = met.windows s; attained = met.attained s }) c.args.self.now.lines.lawful _ _ c.loop-d.invariant.1 c.in_default.ensures.first_deadline_between
