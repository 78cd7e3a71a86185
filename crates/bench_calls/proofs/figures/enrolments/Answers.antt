use Rattle.bench_calls.proofs.Eight.{entries}
use Rattle.bench_calls.proofs.figures.enrolments.Goals as goal
use Rattle.bench_calls.specs.Promises.{enrolled}
use Rattle.std.proofs.Common.{ap, map, rules}

pub returns : goal.returns
returns c =
    let whole = ap (map enrolled) (entries (record { period = 0; deadline = 0; cost = 0 }) c.args.lines.now (search rules)) in
    search rules
