-- No lines rest at once and have no deadlines to watch.
use Rattle.lines.specs.Rest.{first, every, some, product, hyperperiod, deadlines, full_list}
use Rattle.lines.specs.declared.row.Row.{Row}
use Rattle.std.proofs.Common.{◌≡◌, ◌≤◌, List, [], length, sym, subst, arith}

pub brief_none : (rows : List Row) → rows ≡ [] → hyperperiod rows ≤ 30000
unfolding first every product
brief_none rows none = subst (λ rows. hyperperiod rows ≤ 30000) (sym none) (omega arith)

pub few_none : (rows : List Row) → rows ≡ [] → length (full_list rows) ≤ 256
unfolding first every some product deadlines
few_none rows none = subst (λ rows. length (full_list rows) ≤ 256) (sym none) (omega arith)
