use Rattle.std.proofs.Common.{◌≡◌, ◌<◌, ◌≤◌, ◌∷◌, ◌++◌, length, drop, sym, ap, ◌∙◌, subst, arith}
use Rattle.grammar.proofs.Decoding.{pair, spells_closing, short_closing}
use Rattle.grammar.specs.Reading.{Fault, cut_short, miscounted}
use Rattle.grammar.specs.Records.{closing}
use Rattle.sheet.proofs.records.closed.Goals as goal

pub returns-in_default : goal.returns-in_default
returns-in_default c m rows watched =
    let xs = c.args.fields.now in
    let few : length xs < 2 = c.in_default.len_below in
    subst (λ why. Fault m rows watched c.args.before (69 ∷ 78 ∷ xs) why) (sym c.by_sheet.ensures) (cut_short (short_closing xs (λ i. (c.type_inv.fields i).fits) few))

pub returns-then-from-before : goal.returns-then-from-before
returns-then-from-before c m rows watched =
    let xs = c.args.fields.now in
    let enough : 2 ≤ length xs = c.in-len2-up.len_at_least in
    let other : pair xs 0 ≡ c.args.before → ⊥ = λ e. c.if-from-before.true (omega (arith, c.from.ensures, c.from_be_bytes.ensures)) in
    subst (λ why. Fault m rows watched c.args.before (69 ∷ 78 ∷ xs) why) (sym c.by_sheet-then-from-before.ensures) (miscounted (pair xs 0) (drop 2 xs) (spells_closing xs (λ i. (c.type_inv.fields i).fits) enough) other)

pub returns : goal.returns
returns c =
    let xs = c.args.fields.now in
    let enough : 2 ≤ length xs = c.in-len2-up.len_at_least in
    let same : pair xs 0 ≡ c.args.before = omega (arith, c.if-from-before.false, c.from.ensures, c.from_be_bytes.ensures) in
    (drop 2 xs, spells_closing xs (λ i. (c.type_inv.fields i).fits) enough ∙ ap (λ n. closing n ++ drop 2 xs) same)
