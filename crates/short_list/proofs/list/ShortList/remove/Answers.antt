use Rattle.short_list.proofs.Removing.{front_removed}
use Rattle.short_list.proofs.Standing.{stands, stands_none}
use Rattle.short_list.proofs.list.ShortList.remove.Goals as goal
use Rattle.std.proofs.Common.{arith}
use Rattle.std.proofs.lemmas.Grind.{common_steps}

pub returns-then-at-self-clause-answers_item_removed : goal.returns-then-at-self-clause-answers_item_removed
returns-then-at-self-clause-answers_item_removed g c =
    let inside = c.self.inside in
    rw (← c.self.view_is) (stands_none inside.places inside.len c.args.at (omega arith) (omega arith))

pub returns-then-at-self-clause-closes_the_gap : goal.returns-then-at-self-clause-closes_the_gap
returns-then-at-self-clause-closes_the_gap g c = grind (arith, common_steps)

pub offset_bounds-self-inside-at : goal.offset_bounds-self-inside-at
offset_bounds-self-inside-at g c = grind (arith, common_steps)

pub returns-clause-answers_item_removed : goal.returns-clause-answers_item_removed
returns-clause-answers_item_removed g c =
    let inside = c.self.inside in
    rw (← c.self.view_is) (stands inside.places inside.len c.args.at (omega arith) _ (omega arith))

pub returns-clause-closes_the_gap : goal.returns-clause-closes_the_gap
returns-clause-closes_the_gap g c =
    let inside = c.self.inside in
    rw (← c.self.view_is, c.copy_within.ensures.after) (front_removed inside.places inside.len c.args.at (omega arith) (omega arith))
