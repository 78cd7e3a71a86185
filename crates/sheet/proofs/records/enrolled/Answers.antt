use Rattle.std.proofs.Common.{◌<◌, ◌≤◌, ◌∷◌, length, drop, sym, refl, subst}
use Rattle.grammar.proofs.Decoding.{row_in, spells_line, short_line}
use Rattle.grammar.specs.Reading.{cut_short}
use Rattle.grammar.specs.Records.{line}
use Rattle.sheet.proofs.Taking.{taken, refused}
use Rattle.sheet.proofs.records.enrolled.Goals as goal
use Rattle.sheet.specs.Stepping.{Faulty}
use Rattle.std.proofs.lemmas.Result.{err_from_is_err_and}

pub returns-in_default : goal.returns-in_default
returns-in_default c count =
    let xs = c.args.fields.now in
    let few : length xs < 6 = c.in_default.len_below in
    subst (λ why. Faulty c.args.roster.now count (76 ∷ 78 ∷ xs) why) (sym c.by_sheet.ensures) (cut_short (short_line xs (λ i. (c.type_inv.fields i).fits) few))

pub returns-in_err-enrol : goal.returns-in_err-enrol
returns-in_err-enrol c =
    let xs = c.args.fields.now in
    let p = err_from_is_err_and c.from_residual.result c.from_residual.ensures.1 in
    let enough : 6 ≤ length xs = c.in-len6-up.len_at_least in
    rw (p.1, p.2) (refused c.args.roster.now _ _ (drop 6 xs) (line (row_in xs)) (spells_line xs (λ i. (c.type_inv.fields i).fits) enough) _ (cc) _ _ c.in_err-enrol.ensures.added_last_or_refused_by_checks)

pub returns : goal.returns
returns c =
    let xs = c.args.fields.now in
    let enough : 6 ≤ length xs = c.in-len6-up.len_at_least in
    taken c.args.roster.now _ _ (drop 6 xs) (line (row_in xs)) (spells_line xs (λ i. (c.type_inv.fields i).fits) enough) _ (cc) _ _ 8 refl c.in_ok-enrol.ensures.added_last_or_refused_by_checks
