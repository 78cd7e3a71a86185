use Rattle.std.proofs.Common.{◌≡◌, ◌*◌, true, false, ltb, Some, None, ap, ◌∙◌, zero-add, rules}
use Rattle.analysis.specs.Watching.{weighed}
use Rattle.lines.specs.Demand.{count}
use Rattle.lines.specs.Left.{rows_left}
use Rattle.lines.specs.Of.{rows_of}
use Rattle.lines.specs.declared.line.Line.{Line}
use Rattle.lines.specs.declared.row.Row.{Row}
use Rattle.refusal.proofs.Checks.{refused_at}
use Rattle.refusal.specs.Answers.{check_at}
use Rattle.refusal.specs.declared.reason.Reason.TheVariants.{CountNotCovered}
use Rattle.roster.proofs.Each.{none_bad, first_bad}
use Rattle.roster.proofs.certificate.Certificate.check_counts.Goals as goal
use Rattle.roster.specs.Certificate.{cites_of}
use Rattle.std.proofs.lemmas.Iterator.{IsFirst-from_position}
use Rattle.std.proofs.lemmas.Iterator.Consumers.{YieldsList-from_first}

pub returns-in-None : goal.returns-in-None
returns-in-None c =
    let it = c.args.self.now in
    let rows = rows_of c.args.lines.now in
    let bad = λ (row : Row). ltb (weighed (count row) (cites_of it.bytes.now)) (it.divisor * count row it.deadline) in
    let h = IsFirst-from_position c.position.new.self _ None (λ (row : Row). bad row ≡ true) (λ (row : Row). bad row ≡ false) c.in-None.ensures.ran (YieldsList-from_first (λ (line : Line). line.row) rows_left rows c.iter.ensures.walks_lines_in_order) (λ x q k. search rules) (λ x q k. search rules) in
    (none_bad bad CountNotCovered 0 rows h, tt)

pub returns-in-Some : goal.returns-in-Some
returns-in-Some c =
    let it = c.args.self.now in
    let rows = rows_of c.args.lines.now in
    let bad = λ (row : Row). ltb (weighed (count row) (cites_of it.bytes.now)) (it.divisor * count row it.deadline) in
    let h = IsFirst-from_position c.position.new.self _ (Some c.in-Some.number) (λ (row : Row). bad row ≡ true) (λ (row : Row). bad row ≡ false) c.in-Some.ensures.ran (YieldsList-from_first (λ (line : Line). line.row) rows_left rows c.iter.ensures.walks_lines_in_order) (λ x q k. search rules) (λ x q k. search rules) in
    first_bad bad CountNotCovered 0 rows c.in-Some.number h.0 h.1 h.2 ∙ ap (λ p. Some (check_at p true CountNotCovered).refusal) (zero-add c.in-Some.number) ∙ ap Some (refused_at _ _ CountNotCovered c.in-Some.number c.by.ensures.layer_and_reason_at_place_0 c.at.ensures.place_alone_is_new)
