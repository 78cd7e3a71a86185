use Rattle.short_list.proofs.Standing.{stands, stands_none}
use Rattle.short_list.proofs.list.ShortList.replace.Goals as goal
use Rattle.std.proofs.Common.{arith}
use Rattle.std.proofs.Math.Seq.{take-set-lt}
use Rattle.std.proofs.lemmas.Grind.{common_steps}

pub returns-then-at-self-clause-answers_item_before : goal.returns-then-at-self-clause-answers_item_before
returns-then-at-self-clause-answers_item_before g c =
    let inside = c.self.inside in
    rw (← c.self.view_is) (stands_none inside.places inside.len c.args.at (omega arith) (omega arith))

pub returns-then-at-self-clause-changes_that_place_alone : goal.returns-then-at-self-clause-changes_that_place_alone
returns-then-at-self-clause-changes_that_place_alone g c = grind (arith, common_steps)

pub offset_bounds-self-inside-at : goal.offset_bounds-self-inside-at
offset_bounds-self-inside-at g c = grind (arith, common_steps)

pub returns-clause-answers_item_before : goal.returns-clause-answers_item_before
returns-clause-answers_item_before g c =
    let inside = c.self.inside in
    rw (← c.self.view_is) (stands inside.places inside.len c.args.at (omega arith) _ (omega arith))

pub returns-clause-changes_that_place_alone : goal.returns-clause-changes_that_place_alone
returns-clause-changes_that_place_alone g c =
    let inside = c.self.inside in
    rw (← c.self.view_is) (take-set-lt inside.len inside.places c.args.at c.args.value c.if-at-self.false)
