use Rattle.lines.proofs.Rests.{busy_until}
use Rattle.lines.proofs.line.Line.next_rest.Goals as goal
use Rattle.std.proofs.Common.{arith}
use native.Mathlib.Nat.{mod-le}

pub overflow_add-result : goal.overflow_add-result
overflow_add-result c = let line = c.args.self.now in omega (arith, line.lawful, mod-le c.args.t)

pub returns-then-past-self : goal.returns-then-past-self
returns-then-past-self c =
    let line = c.args.self.now in
    (omega (arith, mod-le c.args.t), λ k le l. busy_until line.row c.args.t k line.lawful c.if-past-ne0.true c.if-past-self.true le l)
