use Rattle.std.proofs.Common.{◌≡◌, ◌+◌, Ok, sym, subst, rules}
use Rattle.grammar.specs.Reading.{by_sheet}
use Rattle.refusal.specs.declared.reason.Reason.TheVariants.{BytesAfterEnd}
use Rattle.sheet.proofs.Reader.{going_behind, going_done}
use Rattle.sheet.proofs.reading.records.Goals as goal
use Rattle.sheet.specs.Reading.{refused_at, Leaves, Next, TurnedDown}

pub returns-then-end-bytes : goal.returns-then-end-bytes
returns-then-end-bytes c =
    let l = c.loop-size in
    let bytes = c.args.bytes.now in
    let last = subst (λ x. Next l.roster c.next.new.roster bytes l.at l.before (Ok x)) c.in_default.is c.in_ok-size.ensures in
    let why : c.at.result ≡ refused_at (by_sheet BytesAfterEnd) (l.before + 2) (l.at + 4) = search rules in
    subst (λ e. TurnedDown bytes e) (sym why) (going_behind l.roster bytes l.at l.before l.invariant c.requires.1 last.1.0 last.1.1 c.if-end-bytes.true)

pub returns : goal.returns
returns c =
    let l = c.loop-size in
    let bytes = c.args.bytes.now in
    let last = subst (λ x. Next l.roster c.next.new.roster bytes l.at l.before (Ok x)) c.in_default.is c.in_ok-size.ensures in
    subst (λ roster. Leaves bytes roster) (sym last.0) (going_done l.roster bytes l.at l.before l.invariant c.requires.1 last.1.0 last.1.1 c.if-end-bytes.false)
