use Rattle.std.proofs.Common.{◌++◌, ◌∷◌, append_assoc, rules}
use Rattle.std.proofs.Output.{has_written_append}
use Rattle.std.specs.Prelude.{decimal}
use Rattle.texts.proofs.counts.CountsDisplay.fmt.Goals as goal

-- A count more is written.
pub loop-line-preserved : goal.loop-line-preserved
loop-line-preserved g c = λ plain.
    let so_far = c.loop-line.invariant plain in
    (so_far.0 ++ (32 ∷ decimal c.count-count.result), has_written_append _ _ _ _ _ _ so_far.1 (search rules), rw (append_assoc, c.count-count.ensures.counts_jobs_due) (rw c.in-Some.ensures.steps at so_far.2))
