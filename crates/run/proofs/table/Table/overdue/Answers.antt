use Rattle.run.proofs.table.Table.overdue.Goals as goal
use Rattle.std.proofs.Common.{rules}

pub returns : goal.returns
returns c = let leads = c.args.self.now.leads _ c.in_ok-job.was in search rules
