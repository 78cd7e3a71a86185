-- What writing answers and leaves, from the draft that is handed over, and that reading it brings the lines back.
use Rattle.std.proofs.Common.{◌≡◌, ℕ, List, [], ◌∷◌, map, length, take, drop, IfOk, None, Ok, Err, Result, sym, ap, ◌∙◌, subst, arith}
use Rattle.grammar.proofs.OneReading.{one_reading}
use Rattle.grammar.proofs.Writing.{plain_lines, written_accepted}
use Rattle.grammar.specs.Reading.{rows_through, Outcome, accepted, refused}
use Rattle.grammar.specs.Records.{Record, line, calls_of}
use Rattle.grammar.specs.Supplies.{supply_of, field_checks}
use Rattle.grammar.specs.Theorems.{Holdable}
use Rattle.grammar.specs.declared.fields.Fields.{Fields}
use Rattle.lines.specs.Of.{rows_of}
use Rattle.lines.specs.declared.row.Row.{Row}
use Rattle.lines.specs.declared.table.Lines.{Lines}
use Rattle.refusal.proofs.Checks.{answered_alike, refusal_behind}
use Rattle.refusal.specs.Answers.{refusal_of, Answered, left}
use Rattle.refusal.specs.declared.Refusal.{Refusal}
use Rattle.roster.specs.Lent.{fronted}
use Rattle.sheet.specs.Drafts.{room_check}
use Rattle.sheet.specs.Writing.{plain_sheet, write_checks, BringsBack}
use Rattle.std.proofs.lemmas.List.{take_at}

-- the lines of a set can be held by a roster
holdable : (lines : Lines) → Holdable (rows_of lines)
holdable lines = record { few = lines.within; lawful = lines.lawful; brief = lines.brief; watchable = lines.few }

-- the same reading has the same fields and records
same_fields : (f g : Fields) (rs ss : List Record) → ◌≡◌ {A = Outcome} (accepted f rs) (accepted g ss) → (f ≡ g) × (rs ≡ ss)
same_fields f g rs ss e = (cc, cc)

never_refused : (f : Fields) (rs : List Record) (why : Refusal) (number byte : ℕ) → ◌≡◌ {A = Outcome} (refused why number byte) (accepted f rs) → ⊥
never_refused f rs why number byte e = let z : ◌≡◌ {A = ℕ} 0 1 = cc in omega arith

module _ (lines : Lines) (fields : Fields) (named-one : refusal_of (field_checks fields) ≡ None) where
  abbrev rows : List Row
  rows = rows_of lines

  -- the written sheet brings the lines back
  pub brought_back : BringsBack (plain_sheet fields rows) fields rows
  brought_back (Ok roster) leaves =
      let own = written_accepted fields rows named-one (holdable lines) in
      let same = same_fields leaves.fields fields leaves.records (map line rows) (one_reading (plain_sheet fields rows) (accepted leaves.fields leaves.records) (accepted fields (map line rows)) leaves.accepted own) in
      (leaves.lines_after_its_calls ∙ ap (λ rs. rows_through [] (calls_of rs)) same.1 ∙ plain_lines rows, leaves.supply_is_that_named ∙ ap supply_of same.0)
  brought_back (Err e) turned =
      let own = written_accepted fields rows named-one (holdable lines) in
      never_refused fields (map line rows) e.refusal e.«record» e.byte (one_reading (plain_sheet fields rows) (refused e.refusal e.«record» e.byte) (accepted fields (map line rows)) turned own)

  module _ (draft out : List ℕ) (draft-is : draft ≡ plain_sheet fields rows) where
    pub written_answer : (r : Result ℕ Refusal) → Answered r (room_check (length draft) (length out) ∷ []) (λ n. n ≡ length draft) → Answered r (write_checks fields rows (length out)) (λ n. n ≡ length (plain_sheet fields rows))
    written_answer r h =
        let room = room_check (length (plain_sheet fields rows)) (length out) ∷ [] in
        answered_alike r room (write_checks fields rows (length out)) _ _ (sym (refusal_behind (field_checks fields) room named-one)) (λ n e. e) (subst (λ d. Answered r (room_check (length d) (length out) ∷ []) (λ n. n ≡ length d)) draft-is h)

    pub written_list : (after : List ℕ) (r : Result ℕ Refusal) → after ≡ left r (fronted draft out) out → after ≡ left r (fronted (plain_sheet fields rows) out) out
    written_list after r h = subst (λ d. after ≡ left r (fronted d out) out) draft-is h

    pub written_back : (after : List ℕ) (r : Result ℕ Refusal) → Answered r (room_check (length draft) (length out) ∷ []) (λ n. n ≡ length draft) → after ≡ left r (fronted draft out) out → IfOk r (λ n. BringsBack (take n after) fields rows)
    written_back after (Ok n) h e =
        let front : take n after ≡ plain_sheet fields rows = ap (take n) e ∙ take_at draft (drop (length draft) out) n (sym h.1) ∙ draft-is in
        subst (λ bytes. BringsBack bytes fields rows) (sym front) brought_back
    written_back after (Err why) h e = tt
