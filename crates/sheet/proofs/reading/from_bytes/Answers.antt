use Rattle.grammar.specs.Reading.{by_sheet, too_long, at_first}
use Rattle.refusal.specs.declared.reason.Reason.TheVariants.{TooLarge}
use Rattle.sheet.proofs.Mapped.{mapped_ok, mapped_err}
use Rattle.sheet.proofs.Reader.{going_first}
use Rattle.sheet.proofs.reading.from_bytes.Goals as goal
use Rattle.sheet.specs.Reading.{refused_at, TurnedDown}
use Rattle.sheet.specs.Stepping.{Opening}
use Rattle.std.proofs.Common.{◌≡◌, Ok, sym, ◌∙◌, subst, rules}
use Rattle.std.proofs.lemmas.Result.{err_from_is_err_and}

pub returns-then-bytes-gt-LONGEST : goal.returns-then-bytes-gt-LONGEST
returns-then-bytes-gt-LONGEST c =
    let why : c.into.result ≡ refused_at (by_sheet TooLarge) 0 0 = search rules in
    record { read_by_the_grammar = subst (λ e. TurnedDown c.args.bytes.now e) (sym why) (too_long c.if-bytes-gt-LONGEST.true) }

pub returns-in_err-supply : goal.returns-in_err-supply
returns-in_err-supply c =
    let p = err_from_is_err_and c.from_residual.result c.from_residual.ensures.1 in
    let fault = mapped_err (Opening c.args.bytes.now) _ c.first.result c.in_err-supply.field-0.0 c.in_err-supply.ensures.cases c.first.ensures in
    let mapped = fault.2 in
    let same : c.in_err-supply.field-0.0 ≡ refused_at fault.0 1 0 = search rules in
    rw (p.1, p.2 ∙ same) (record { read_by_the_grammar = at_first fault.0 c.if-bytes-gt-LONGEST.false fault.1 })

pub records-requires : goal.records-requires
records-requires c =
    let opens = mapped_ok (Opening c.args.bytes.now) c.first.result (Ok c.in_ok-supply.supply) c.in_ok-supply.ensures.cases c.first.ensures in
    (going_first c.open.result c.args.bytes.now c.in_ok-supply.supply opens c.open.ensures.takes_the_supply c.open.ensures.holds_no_line c.open.ensures.watches_nothing, c.if-bytes-gt-LONGEST.false)
