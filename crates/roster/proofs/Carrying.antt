-- What holds of a roster's own supply and lines holds of those that they are equal to.
use Rattle.std.proofs.Common.{◌≡◌, List, subst}
use Rattle.lines.specs.declared.row.Row.{Row}

pub carried : {S : Type 0} (holds : S → List Row → Type 0) {s s' : S} {rows rows' : List Row} → s ≡ s' → rows ≡ rows' → holds s rows → holds s' rows'
carried holds {s' = s'} {rows = rows} same follows h = subst (holds s') follows (subst (λ x. holds x rows) same h)
