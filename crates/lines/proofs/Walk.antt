-- A walk over lines: the line of a turn has the next of their rows, and at the end all have come.
use Rattle.std.proofs.Common.{◌≡◌, suc, ◌<◌, List, [], ◌∷◌, length, get_or, Option, ap, ◌∙◌, arith}
use Rattle.lines.specs.Demand.{no_row}
use Rattle.lines.specs.Left.{rows_left}
use Rattle.lines.specs.declared.line.Line.{Line}
use Rattle.lines.specs.declared.line_iter.LineIter.{LineIter}
use Rattle.std.specs.Iterator.{Yields, YieldsFirstBy}

abbrev pub steps : LineIter → Option Line → LineIter → Type 0
steps = YieldsFirstBy (λ (line : Line). line.row) rows_left

pub turn : (lines now next : LineIter) (yielded : List Line) (line : Line) → Yields steps lines yielded now → rows_left now ≡ line.row ∷ rows_left next → (length yielded < length (rows_left lines)) × (get_or (rows_left lines) (length yielded) no_row ≡ line.row)
turn lines now next [] line by is =
    let first = ap rows_left by ∙ is in
    (omega (arith, ap length first), ap (λ rows. get_or rows 0 no_row) first)
turn lines now next (first ∷ yielded) line by is =
    let rest = turn by.0 now next yielded line by.2 is in
    (omega (arith, rest.0, ap length by.1), ap (λ rows. get_or rows (suc (length yielded)) no_row) by.1 ∙ rest.1)

pub all_came : (lines now : LineIter) (yielded : List Line) → Yields steps lines yielded now → rows_left now ≡ [] → length (rows_left lines) ≡ length yielded
all_came lines now [] by none = ap length (ap rows_left by ∙ none)
all_came lines now (first ∷ yielded) by none = ap length by.1 ∙ ap suc (all_came by.0 now yielded by.2 none)
