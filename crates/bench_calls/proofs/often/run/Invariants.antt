-- Where a check fails, the runs before have left the slots as they were.
use Rattle.bench_calls.proofs.often.run.Given as goal
use Rattle.bench_calls.specs.Promises.{run_refused}
use Rattle.std.proofs.Common.{◌≡◌, length, None, ◌≢◌}

abbrev pub invariant-loop : goal.invariant-loop
invariant-loop l = run_refused l.fn.lines l.fn.jobs (length l.fn.slots) ≢ None → l.slots ≡ l.fn.slots
