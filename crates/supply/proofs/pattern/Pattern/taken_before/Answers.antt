-- Whole turns and the slots left over are what the pattern takes, so no sum passes x.
use Rattle.std.proofs.Common.{◌≡◌, ℕ, ◌+◌, ◌*◌, ◌/◌, ◌%◌, ◌≤◌, min, sym, arith}
use Rattle.supply.specs.Patterns.{taken_before}
use Rattle.supply.specs.Rows.{from_within}
use Rattle.supply.specs.Row.{from}
use Rattle.supply.specs.Share.{pattern}
use Rattle.supply.specs.declared.pattern.Pattern.{Pattern}
use Rattle.supply.proofs.pattern.Pattern.taken_before.Goals as goal

by_turns : (p : Pattern) (turn given x : ℕ) → turn ≡ p.of → given ≡ p.given → (x / turn * given + min (x % turn) given ≡ from (pattern p.given p.of) 0 x) × (from (pattern p.given p.of) 0 x ≤ x)
by_turns p turn given x whole part = rw (whole, part) (sym (taken_before p.given p.of p.lawful x), from_within (pattern p.given p.of) 0 x)

pub overflow_mul-result : goal.overflow_mul-result
overflow_mul-result c = omega (arith, c.ranges.x, by_turns c.args.self.now _ _ c.args.x c.from-turn.ensures c.from-given.ensures)

pub overflow_add-result : goal.overflow_add-result
overflow_add-result c = omega (arith, c.ranges.x, by_turns c.args.self.now _ _ c.args.x c.from-turn.ensures c.from-given.ensures)

pub returns : goal.returns
returns c = omega (arith, by_turns c.args.self.now _ _ c.args.x c.from-turn.ensures c.from-given.ensures)
