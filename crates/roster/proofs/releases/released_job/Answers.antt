use Rattle.std.proofs.Common.{◌≡◌, ◌+◌, ◌%◌, ◌&&◌, Bool, true, false, cond, eqb, leb, [], ◌∷◌, refl, ap, ◌∙◌, ap₂, arith}
use Rattle.analysis.specs.Legal.{released_at}
use Rattle.lines.specs.declared.row.Row.{Row}
use Rattle.roster.proofs.releases.released_job.Goals as goal
use Rattle.roster.proofs.releases.released_job.Goals.{then-release-row-eq0, else-release-row-eq0}
use Rattle.std.proofs.lemmas.Bool.Decides.{nat_tests}
use Rattle.std.specs.Bool.{then_some}
use Rattle.std.specs.Option.{option_to_list}

chosen : {X : Type 0} (test : Bool) (x : X) → option_to_list (then_some test x) ≡ cond test (x ∷ []) []
chosen true x = refl
chosen false x = refl

pub returns : goal.returns
unfolding released_at
returns c =
    let row = c.args.line.now.row in
    let r = c.args.release in
    let same = c.row-row.ensures.figures_it_was_made_from in
    let releases : c.if-release-row-eq0.releases ≡ (eqb (r % row.period) 0 && leb (r + row.deadline) c.args.t) = elim c.if-release-row-eq0.branch [ then-release-row-eq0 w ↦ grind (arith, nat_tests) | else-release-row-eq0 w ↦ grind (arith, nat_tests) ] in
    ap option_to_list c.then_some.ensures ∙ chosen c.if-release-row-eq0.releases _ ∙ ap₂ (λ test (x : Row). cond test (record { line = c.args.number; release = r; cost = x.cost } ∷ []) []) releases same
