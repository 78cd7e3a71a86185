use Rattle.std.proofs.Common.{◌+◌, ◌*◌, ◌<◌, ◌≤◌, ◌∷◌, length, get_or, drop, sym, ap, subst, arith, ltb-false, ltb-true}
use Rattle.analysis.specs.History.{cut}
use Rattle.grammar.proofs.Decoding.{certificate_in, spells_certificate, short_certificate, cites_handed, certificate_length}
use Rattle.grammar.specs.Reading.{cut_short}
use Rattle.roster.specs.Certificate.{cites_of}
use Rattle.sheet.proofs.Taking.{taken, refused}
use Rattle.sheet.proofs.records.cut.Goals as goal
use Rattle.sheet.specs.Stepping.{Faulty}
use Rattle.std.proofs.lemmas.List.{take_rest, length-drop}
use Rattle.std.proofs.lemmas.Result.{err_from_is_err_and}

pub returns-in_default : goal.returns-in_default
returns-in_default c count =
    let xs = c.args.fields.now in
    let few : length xs < 5 = c.in_default.len_below in
    subst (λ why. Faulty c.args.roster.now count (67 ∷ 85 ∷ xs) why) (sym c.by_sheet.ensures) (cut_short (short_certificate xs (λ i. (c.type_inv.fields i).fits) (omega arith)))

pub returns-then-cites-length : goal.returns-then-cites-length
returns-then-cites-length c count =
    let xs = c.args.fields.now in
    let few : length xs < 5 + 4 * get_or xs 4 0 = omega (arith, c.if-cites-length.true, ap length (take_rest xs 5), length-drop 5 xs, c.from-length.ensures, ltb-true, ltb-false) in
    subst (λ why. Faulty c.args.roster.now count (67 ∷ 85 ∷ xs) why) (sym c.by_sheet-then-cites-length.ensures) (cut_short (short_certificate xs (λ i. (c.type_inv.fields i).fits) few))

pub returns-in_err-cut : goal.returns-in_err-cut
returns-in_err-cut c =
    let xs = c.args.fields.now in
    let n = get_or xs 4 0 in
    let p = err_from_is_err_and c.from_residual.result c.from_residual.ensures.1 in
    let enough : 5 + 4 * n ≤ length xs = omega (arith, c.if-cites-length.false, ap length (take_rest xs 5), length-drop 5 xs, c.from-length.ensures, ltb-true, ltb-false) in
    rw (p.1, p.2) (refused c.args.roster.now _ _ (drop (4 * n) (drop 5 xs)) (certificate_in xs) (spells_certificate xs (λ i. (c.type_inv.fields i).fits) enough) _ (λ i. cut (c.from_be_bytes-deadline.ensures i) (c.from_be_bytes-divisor.ensures i) (cites_of (cites_handed xs c.from-length.result c.from-length.ensures i))) _ _ c.in_err-cut.ensures.deadline_leaves_or_refused_by_checks)

pub returns : goal.returns
returns c =
    let xs = c.args.fields.now in
    let n = get_or xs 4 0 in
    let enough : 5 + 4 * n ≤ length xs = omega (arith, c.if-cites-length.false, ap length (take_rest xs 5), length-drop 5 xs, c.from-length.ensures, ltb-true, ltb-false) in
    taken c.args.roster.now _ _ (drop (4 * n) (drop 5 xs)) (certificate_in xs) (spells_certificate xs (λ i. (c.type_inv.fields i).fits) enough) _ (λ i. cut (c.from_be_bytes-deadline.ensures i) (c.from_be_bytes-divisor.ensures i) (cites_of (cites_handed xs c.from-length.result c.from-length.ensures i))) _ _ (7 + 4 * c.from-length.result) (omega (arith, certificate_length xs (λ i. (c.type_inv.fields i).fits) enough, c.from-length.ensures)) c.in_ok-cut.ensures.deadline_leaves_or_refused_by_checks
