-- A record whose call is made is taken, and one whose call is refused is at fault.
use Rattle.std.proofs.Common.{◌≡◌, ℕ, List, ◌++◌, length, Some, None, Ok, Err, Result, subst}
use Rattle.analysis.specs.History.{Call}
use Rattle.grammar.specs.Reading.{turned_down, unlawful}
use Rattle.grammar.specs.Records.{Record, call_of, spelled, opening}
use Rattle.grammar.specs.Supplies.{supply_of, field_checks}
use Rattle.grammar.specs.declared.fields.Fields.{Fields}
use Rattle.refusal.specs.Answers.{refusal_of, Answered}
use Rattle.refusal.specs.declared.Refusal.{Refusal}
use Rattle.roster.specs.Working.{Works}
use Rattle.roster.specs.declared.roster.Roster.{Roster}
use Rattle.sheet.specs.Stepping.{Takes, Faulty, Opening}
use Rattle.supply.specs.Named.{named}
use Rattle.supply.specs.declared.named.Named.{Named}

module _ {A : Type 0} (before after : Roster Named) (rest more : List ℕ) (r : Record) (rest_is : rest ≡ spelled r ++ more) (call : Call) (call-is : call ≡ call_of r) (promised : A → Type 0) where
  pub taken : (x : A) (size : ℕ) → size ≡ length (spelled r) → Works (named before.supply) before after call (Ok x) promised → Takes before after rest size
  taken x size long works =
      let made = subst (λ c. Works (named before.supply) before after c (Ok x) promised) call-is works in
      record { r = r; more = more; rest_is = rest_is; size_is = long; passes = made.answered.0; lines = made.lines; watched = made.watched; supply = made.supply }

  pub refused : (why : Refusal) → Works (named before.supply) before after call (Err why) promised → (count : ℕ) → Faulty before count rest why
  refused why works count =
      let made = subst (λ c. Works (named before.supply) before after c (Err why) promised) call-is works in
      turned_down r more why rest_is made.answered

-- the supply of a first record is named, or its fields are at fault
pub opened_by : (bytes more : List ℕ) (fields given : Fields) → bytes ≡ opening fields ++ more → given ≡ fields → (r : Result Named Refusal) → Answered r (field_checks given) (λ n. named n ≡ supply_of given) → Opening bytes r
opened_by bytes more fields given e same (Ok supply) h =
    let g = subst (λ f. (refusal_of (field_checks f) ≡ None) × (named supply ≡ supply_of f)) same h in
    record { fields = fields; more = more; bytes_are = e; supply_named = g.0; meaning_is = g.1 }
opened_by bytes more fields given e same (Err why) h =
    unlawful fields more why e (subst (λ f. refusal_of (field_checks f) ≡ Some why) same h)
