use Rattle.std.proofs.Common.{◌≡◌, ℕ, ◌+◌, ◌≤◌, List, length, drop, Some, None, Ok, Err, Option, Result, MatchResult, IsErrAnd, sym, subst, rules}
use Rattle.refusal.specs.declared.Refusal.{Refusal}
use Rattle.roster.specs.declared.roster.Roster.{Roster}
use Rattle.sheet.proofs.Reader.{record_some, going_more, going_fault}
use Rattle.sheet.proofs.reading.next.Goals as goal
use Rattle.sheet.specs.Reading.{refused_at, Going, Next, TurnedDown}
use Rattle.sheet.specs.Stepping.{Stepping}
use Rattle.sheet.specs.declared.sheet_refusal.SheetRefusal.{SheetRefusal}
use Rattle.std.proofs.lemmas.List.{take_rest}
use Rattle.supply.specs.declared.named.Named.{Named}

module _ (old new : Roster Named) (bytes : List ℕ) (at before : ℕ) (going : Going old bytes at before) (short : length bytes ≤ 16384) where
  -- what a step makes of the rest of the sheet, with the refusal mapped to its place
  placed : (Q : Refusal → SheetRefusal → Type 0) (r : Result (Option ℕ) Refusal) (s : Result (Option ℕ) SheetRefusal) → MatchResult r (λ x. s ≡ Ok x) (λ why. IsErrAnd s (Q why)) → ((why : Refusal) (e : SheetRefusal) → Q why e → e ≡ refused_at why (before + 1) at) → Stepping old new before (drop at bytes) r → Next old new bytes at before s
  placed Q (Ok (Some size)) s e f took =
      subst (λ x. Next old new bytes at before x) (sym e) (record_some old bytes at before going new size took, going_more old bytes at before going new size took)
  placed Q (Ok None) s e f last = subst (λ x. Next old new bytes at before x) (sym e) last
  placed Q (Err why) (Ok y) e f fault = absurd e
  placed Q (Err why) (Err d) e f fault =
      subst (λ x. TurnedDown bytes x) (sym (f why d e)) (going_fault old bytes at before going short why fault)

pub returns : goal.returns
returns c =
    let old = c.args.roster.now in
    let bytes = c.args.bytes.now in
    let rest = subst (λ rest. Stepping old c.step.new.roster c.args.before rest c.step.result) (take_rest bytes c.args.at) c.step.ensures in
    placed old c.step.new.roster bytes c.args.at c.args.before c.requires.0 c.requires.1 _ c.step.result c.map_err.result c.map_err.ensures.cases (λ why e learnt. search rules) rest
