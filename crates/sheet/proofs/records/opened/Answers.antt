use Rattle.std.proofs.Common.{◌≡◌, ℕ, ◌<◌, ◌≤◌, ◌∷◌, length, get_or, drop, sym, ap, subst, arith}
use Rattle.grammar.proofs.Decoding.{fields_in, spells_opening, short_opening}
use Rattle.grammar.specs.Reading.{FaultFirst, cut_short}
use Rattle.grammar.specs.declared.fields.Fields.{Fields}
use Rattle.sheet.proofs.Taking.{opened_by}
use Rattle.sheet.proofs.records.opened.Goals as goal

pub returns-in_default : goal.returns-in_default
returns-in_default c =
    let xs = c.args.fields.now in
    let few : length xs < 11 = c.in_default.len_below in
    subst (λ why. FaultFirst (83 ∷ 85 ∷ xs) why) (sym c.by_sheet.ensures) (cut_short (short_opening xs (λ i. (c.type_inv.fields i).fits) few))

pub returns : goal.returns
returns c =
    let xs = c.args.fields.now in
    let enough : 11 ≤ length xs = c.in-len11-up.len_at_least in
    let word : c.from_be_bytes.result ≡ (fields_in xs).word = omega (arith, c.from_be_bytes.ensures) in
    let with-word : ℕ → Fields = λ w. record { length = get_or xs 0 0; word = w; share = get_or xs 9 0; of = get_or xs 10 0 } in
    opened_by _ (drop 11 xs) (fields_in xs) (with-word c.from_be_bytes.result) (spells_opening xs (λ i. (c.type_inv.fields i).fits) enough) (ap with-word word) c.supply_of.result c.supply_of.ensures.named_or_refused_by_checks
