use Rattle.std.proofs.Common.{◌≤◌, sym, ⊎_elim, arith}
use Rattle.lines.proofs.Hyperperiod.{hyperperiod_positive}
use Rattle.lines.proofs.Rests.{hyperperiod_ahead, first_rest_is}
use Rattle.lines.proofs.rest.first_rest_of.Goals as goal
use Rattle.lines.specs.Rest.{hyperperiod}
use Rattle.lines.specs.Left.{rows_left}
use Rattle.std.proofs.lemmas.Bool.{cases_lt}

ahead : (c : goal.In-Some) → c.in-Some.later ≤ hyperperiod (rows_left c.args.lines)
ahead c = hyperperiod_ahead _ _ _ (c.args.lines.lawful) c.loop-later.invariant.1 c.in-Some.ensures.1

pub loop-later-init : goal.loop-later-init
loop-later-init c = (omega arith, hyperperiod_positive _ (c.args.lines.lawful), λ k one lower. absurd (omega arith))

pub loop-later-smaller : goal.loop-later-smaller
loop-later-smaller c = omega (arith, ahead c, c.in-Some.ensures.0, c.requires)

pub loop-later-preserved : goal.loop-later-preserved
loop-later-preserved c = (
  omega (arith, c.in-Some.ensures.0, c.loop-later.invariant.0),
  ahead c,
  λ k one lower.
      ⊎_elim (c.loop-later.invariant.2 k one) (λ le. c.in-Some.ensures.1 k le lower) (cases_lt k c.loop-later.t),
)

pub returns : goal.returns
returns c =
    let inv = c.loop-later.invariant in
    (sym (first_rest_is _ _ (c.args.lines.lawful) inv.0 inv.1 c.in_default.ensures inv.2), omega (arith, inv.1, c.requires))
