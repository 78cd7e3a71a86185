use Rattle.std.proofs.Common.{◌≡◌, ◌≤◌, false, length, Some, sym, refl, ap, ◌∙◌, arith, rules}
use Rattle.lines.specs.Calls.{outside}
use Rattle.roster.proofs.Certifying.{figures_weights}
use Rattle.roster.proofs.Spelling.{spelled_length, not_few}
use Rattle.roster.proofs.certificate.Certificate.read.Goals as goal
use Rattle.roster.specs.Certificate.{cites_of}
use Rattle.std.proofs.lemmas.Bool.{cond-false, cond-true}
use Rattle.std.proofs.lemmas.Result.{err_from_is_err_and}

pub returns-then-bytes-ne0 : goal.returns-then-bytes-ne0
returns-then-bytes-ne0 c =
    let low = c.if-divisor-lt1.false in
    let high = c.if-divisor-gt1000.false in
    let fine : outside 1 1000 c.args.divisor ≡ false = grind arith in
    cond-false (outside 1 1000 c.args.divisor) _ _ fine ∙ cond-true _ _ _ (not_few c.args.bytes.now c.then-bytes-ne0.either) ∙ ap Some (sym c.by-out_of_range.ensures.layer_and_reason_at_place_0)

pub returns-in_err-check_none : goal.returns-in_err-check_none
returns-in_err-check_none c =
    let cites = cites_of c.args.bytes.now in
    let number = spelled_length c.args.bytes.now c.if-bytes-ne0.false in
    let some : 1 ≤ length cites = omega (arith, number, c.if-bytes-lt4.false) in
    let few : length cites ≤ 8 = omega (arith, number, c.if-bytes-gt32.false) in
    let p = err_from_is_err_and c.from_residual.result c.from_residual.ensures.1 in
    rw (p.1, p.2) (figures_weights c.args.divisor cites c.if-divisor-lt1.false c.if-divisor-gt1000.false some few ∙ c.in_err-check_none.ensures (λ cite. outside 1 1000 cite.weight) (λ cite r e. search rules))

pub returns : goal.returns
returns c =
    let cites = cites_of c.args.bytes.now in
    let number = spelled_length c.args.bytes.now c.if-bytes-ne0.false in
    let some : 1 ≤ length cites = omega (arith, number, c.if-bytes-lt4.false) in
    let few : length cites ≤ 8 = omega (arith, number, c.if-bytes-gt32.false) in
    (figures_weights c.args.divisor cites c.if-divisor-lt1.false c.if-divisor-gt1000.false some few ∙ (c.in_ok-check_none.ensures (λ cite. outside 1 1000 cite.weight) (λ cite r e. search rules)).0, (refl, refl, refl))
