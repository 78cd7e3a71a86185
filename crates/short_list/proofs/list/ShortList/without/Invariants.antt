use Rattle.short_list.proofs.list.ShortList.without.Given as goal
use Rattle.std.proofs.Common.{◌≡◌, ◌≤◌, not, length, take, filter}

abbrev pub invariant-loop-x : goal.invariant-loop-x
invariant-loop-x g l =
    (l.kept ≤ l.x-index)
    × (length l.places ≡ g.row.N)
    × (take l.kept l.places ≡ filter (λ x. not (g.T.PartialEq.eq x l.value)) (take l.x-index l.x-items))
