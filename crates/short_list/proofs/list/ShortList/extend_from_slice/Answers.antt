use Rattle.short_list.proofs.list.ShortList.extend_from_slice.Goals as goal
use Rattle.std.proofs.Common.{rules, arith}
use Rattle.std.proofs.lemmas.Grind.{common_steps}

pub offset_bounds-places-self-inside : goal.offset_bounds-places-self-inside
offset_bounds-places-self-inside g c = grind (arith, common_steps)

pub returns : goal.returns
returns g c = grind (arith, common_steps)

pub returns-then-values-self : goal.returns-then-values-self
returns-then-values-self g c = search rules
