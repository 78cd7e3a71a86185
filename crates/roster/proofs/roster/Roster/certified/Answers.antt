use Rattle.refusal.proofs.Checks.{refusal_first, answered_alike}
use Rattle.refusal.specs.Answers.{refusal_of}
use Rattle.roster.proofs.Certifying.{of_figures, past_figures, past_watched, past_cites, past_counts}
use Rattle.roster.proofs.Listed.{decided}
use Rattle.roster.proofs.Passing.{behind_figures, behind_cites, behind_counts}
use Rattle.roster.proofs.roster.Roster.certified.Goals as goal
use Rattle.roster.specs.Certificate.{listed, cites_of, each, cited_check, count_check, figure_checks, supply_check, cut_checks}
use Rattle.roster.specs.Working.{rows_in, watched_in}
use Rattle.std.proofs.lemmas.Result.{err_from_is_err_and}
use Rattle.std.proofs.lemmas.Bool.{cond-true}
use Rattle.std.proofs.Common.{true, false, not, [], ◌∷◌, Some, sym, ap, ◌∙◌}

pub returns-in_err-certificate : goal.returns-in_err-certificate
returns-in_err-certificate g c =
    let self = c.args.self.now in
    let m = g.S.Supply.meaning self.supply in
    let rows = rows_in self in
    let W = watched_in self in
    let d = c.args.deadline in
    let q = c.args.divisor in
    let cites = cites_of c.args.cites.now in
    let p = err_from_is_err_and c.from_residual.result c.from_residual.ensures.1 in
    rw (p.1, p.2) (refusal_first (figure_checks q cites) (behind_figures m rows W d q cites) _ c.in_err-certificate.ensures)

pub returns-then-not-contains : goal.returns-then-not-contains
returns-then-not-contains g c =
    let self = c.args.self.now in
    let m = g.S.Supply.meaning self.supply in
    let rows = rows_in self in
    let W = watched_in self in
    let d = c.args.deadline in
    let q = c.args.divisor in
    let cites = cites_of c.args.cites.now in
    let off = decided false d W c.if-not-contains.ensures.true_exactly_if_watched in
    past_figures m rows W d q cites c.in_ok-certificate.ensures.0 ∙ cond-true (not (listed d W)) _ _ (ap not off) ∙ ap Some (sym c.by.ensures.layer_and_reason_at_place_0)

pub returns-in_err-check_cited : goal.returns-in_err-check_cited
returns-in_err-check_cited g c =
    let self = c.args.self.now in
    let m = g.S.Supply.meaning self.supply in
    let rows = rows_in self in
    let W = watched_in self in
    let d = c.args.deadline in
    let q = c.args.divisor in
    let bytes = c.args.cites.now in
    let cites = cites_of bytes in
    let it = c.in_ok-certificate.ensures in
    let on = decided true d W c.if-not-contains.ensures.true_exactly_if_watched in
    let cited = of_figures c.in_ok-certificate.certificate d q bytes (λ d q bytes. refusal_of (each (cited_check W d) 1 (cites_of bytes))) it.1 in
    let p = err_from_is_err_and c.from_residual-in_err-check_cited.result c.from_residual-in_err-check_cited.ensures.1 in
    rw (p.1, p.2) (past_watched m rows W d q cites it.0 on ∙ refusal_first (each (cited_check W d) 1 cites) (behind_cites m rows W d q cites) _ (cited ∙ c.in_err-check_cited.ensures))

pub returns-in_err-check_counts : goal.returns-in_err-check_counts
returns-in_err-check_counts g c =
    let self = c.args.self.now in
    let m = g.S.Supply.meaning self.supply in
    let rows = rows_in self in
    let W = watched_in self in
    let d = c.args.deadline in
    let q = c.args.divisor in
    let bytes = c.args.cites.now in
    let cites = cites_of bytes in
    let it = c.in_ok-certificate.ensures in
    let on = decided true d W c.if-not-contains.ensures.true_exactly_if_watched in
    let cited = of_figures c.in_ok-certificate.certificate d q bytes (λ d q bytes. refusal_of (each (cited_check W d) 1 (cites_of bytes))) it.1 in
    let counts = of_figures c.in_ok-certificate.certificate d q bytes (λ d q bytes. refusal_of (each (count_check d q (cites_of bytes)) 0 rows)) it.1 in
    let p = err_from_is_err_and c.from_residual-in_err-check_counts.result c.from_residual-in_err-check_counts.ensures.1 in
    rw (p.1, p.2) (past_cites m rows W d q cites it.0 on (cited ∙ c.in_ok-check_cited.ensures.0) ∙ refusal_first (each (count_check d q cites) 0 rows) (behind_counts m rows W d q cites) _ (counts ∙ c.in_err-check_counts.ensures))

pub returns : goal.returns
returns g c =
    let self = c.args.self.now in
    let m = g.S.Supply.meaning self.supply in
    let rows = rows_in self in
    let W = watched_in self in
    let d = c.args.deadline in
    let q = c.args.divisor in
    let bytes = c.args.cites.now in
    let cites = cites_of bytes in
    let it = c.in_ok-certificate.ensures in
    let on = decided true d W c.if-not-contains.ensures.true_exactly_if_watched in
    let cited = of_figures c.in_ok-certificate.certificate d q bytes (λ d q bytes. refusal_of (each (cited_check W d) 1 (cites_of bytes))) it.1 in
    let counts = of_figures c.in_ok-certificate.certificate d q bytes (λ d q bytes. refusal_of (each (count_check d q (cites_of bytes)) 0 rows)) it.1 in
    let supply = of_figures c.in_ok-certificate.certificate d q bytes (λ d q bytes. refusal_of (supply_check m d q (cites_of bytes) ∷ [])) it.1 in
    answered_alike c.check_supply.result (supply_check m c.in_ok-certificate.certificate.deadline c.in_ok-certificate.certificate.divisor (cites_of c.in_ok-certificate.certificate.bytes.now) ∷ []) (cut_checks m rows W d q cites) _ _ (sym (past_counts m rows W d q cites it.0 on (cited ∙ c.in_ok-check_cited.ensures.0) (counts ∙ c.in_ok-check_counts.ensures.0) ∙ supply)) (λ x h. h) c.check_supply.ensures
