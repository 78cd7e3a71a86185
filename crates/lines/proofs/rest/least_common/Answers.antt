use Rattle.lines.proofs.Multiples.{walk_none, walk_more, walk_all, common_ordered, least_common_unordered}
use Rattle.lines.proofs.rest.least_common.Goals as goal
use Rattle.std.proofs.Common.{arith}

pub loop-m-init : goal.loop-m-init
loop-m-init c = (walk_none _ _ (omega arith), omega arith)

pub returns-then-m-step : goal.returns-then-m-step
returns-then-m-step c = λ m k.
    let further = (walk_more _ _ _ c.loop-m-test.true c.loop-m.invariant.0).none m (common_ordered _ _ _ _ c.max-step.ensures c.min-other.ensures m k) in
    omega arith

pub loop-m-preserved : goal.loop-m-preserved
loop-m-preserved c = (walk_more _ _ _ c.loop-m-test.true c.loop-m.invariant.0, omega arith)

pub returns : goal.returns
returns c =
    (least_common_unordered _ _ _ _ c.max-step.ensures c.min-other.ensures _ (walk_all _ _ _ c.loop-m-test.false c.loop-m.invariant.0), c.loop-m.invariant.1)
