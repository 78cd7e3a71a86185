-- At most one thing is wrong at a record, and where something is wrong no record goes on.
use Rattle.std.proofs.Common.{◌≡◌, ℕ, List, ◌++◌, Some, None, Option, sym, refl, ap, ◌∙◌, inl, inr, arith}
use Rattle.grammar.proofs.Shapes.{first, later, cut_misplaced, cut_begins, misplaced_begins}
use Rattle.grammar.proofs.Spelling.{spelled_apart, closing_apart, spelled_closing, opening_apart}
use Rattle.grammar.specs.Reading.{First, Later, CutShort, Misplaced, FaultFirst, Fault}
use Rattle.grammar.specs.Records.{Record, call_of, spelled, opening, closing}
use Rattle.grammar.specs.Supplies.{field_checks}
use Rattle.grammar.specs.declared.fields.Fields.{Fields}
use Rattle.lines.specs.declared.row.Row.{Row}
use Rattle.refusal.specs.Answers.{refusal_of}
use Rattle.refusal.specs.declared.Refusal.{Refusal}
use Rattle.roster.specs.Working.{checks}
use Rattle.supply.specs.Meaning.{Meaning}

some_same : (o p : Option Refusal) (w v : Refusal) → o ≡ Some w → p ≡ Some v → o ≡ p → w ≡ v
some_same o p w v e f g = cc

some_none : (o p : Option Refusal) (w : Refusal) → o ≡ Some w → p ≡ None → o ≡ p → ⊥
some_none o p w e f g = let z : ◌≡◌ {A = ℕ} 0 1 = cc in omega arith

module _ (bytes : List ℕ) where
  cut_first : (fields : Fields) (more : List ℕ) → bytes ≡ opening fields ++ more → CutShort First bytes → ⊥
  cut_first fields more e h = cut_begins First first bytes (opening fields) more (fields, refl) e h

  misplaced_first : (fields : Fields) (more : List ℕ) → bytes ≡ opening fields ++ more → Misplaced First bytes → ⊥
  misplaced_first fields more e h = misplaced_begins First first bytes (opening fields) more (fields, refl) e h

  -- a first record with a fault names no supply
  pub first_faulty : (fields : Fields) (more : List ℕ) (why : Refusal) → bytes ≡ opening fields ++ more → refusal_of (field_checks fields) ≡ None → FaultFirst bytes why → ⊥
  first_faulty fields more why e named (FaultFirst.cut_short h) = cut_first fields more e h
  first_faulty fields more why e named (FaultFirst.misplaced h) = misplaced_first fields more e h
  first_faulty fields more why e named (FaultFirst.unlawful others more' why' e' wrong) =
      some_none _ _ why' wrong named (ap (λ f. refusal_of (field_checks f)) (opening_apart others fields more' more (sym e' ∙ e)).0)

  pub first_fault_one : (why other : Refusal) → FaultFirst bytes why → FaultFirst bytes other → why ≡ other
  first_fault_one why other (FaultFirst.cut_short h) (FaultFirst.cut_short k) = refl
  first_fault_one why other (FaultFirst.cut_short h) (FaultFirst.misplaced k) = absurd (cut_misplaced First first bytes h k)
  first_fault_one why other (FaultFirst.cut_short h) (FaultFirst.unlawful g y v q b) = absurd (cut_first g y q h)
  first_fault_one why other (FaultFirst.misplaced h) (FaultFirst.cut_short k) = absurd (cut_misplaced First first bytes k h)
  first_fault_one why other (FaultFirst.misplaced h) (FaultFirst.misplaced k) = refl
  first_fault_one why other (FaultFirst.misplaced h) (FaultFirst.unlawful g y v q b) = absurd (misplaced_first g y q h)
  first_fault_one why other (FaultFirst.unlawful f x w p a) (FaultFirst.cut_short k) = absurd (cut_first f x p k)
  first_fault_one why other (FaultFirst.unlawful f x w p a) (FaultFirst.misplaced k) = absurd (misplaced_first f x p k)
  first_fault_one why other (FaultFirst.unlawful f x w p a) (FaultFirst.unlawful g y v q b) =
      some_same _ _ w v a b (ap (λ f. refusal_of (field_checks f)) (opening_apart f g x y (sym p ∙ q)).0)

module _ (m : Meaning) (rows : List Row) (watched : List ℕ) (before : ℕ) (rest : List ℕ) where
  cut_spelled : (r : Record) (more : List ℕ) → rest ≡ spelled r ++ more → CutShort Later rest → ⊥
  cut_spelled r more e h = cut_begins Later later rest (spelled r) more (inl (r, refl)) e h

  cut_closing : (n : ℕ) (more : List ℕ) → rest ≡ closing n ++ more → CutShort Later rest → ⊥
  cut_closing n more e h = cut_begins Later later rest (closing n) more (inr (n, refl)) e h

  misplaced_spelled : (r : Record) (more : List ℕ) → rest ≡ spelled r ++ more → Misplaced Later rest → ⊥
  misplaced_spelled r more e h = misplaced_begins Later later rest (spelled r) more (inl (r, refl)) e h

  misplaced_closing : (n : ℕ) (more : List ℕ) → rest ≡ closing n ++ more → Misplaced Later rest → ⊥
  misplaced_closing n more e h = misplaced_begins Later later rest (closing n) more (inr (n, refl)) e h

  -- no call that is made begins here
  pub faulty_spelled : (r : Record) (more : List ℕ) (why : Refusal) → rest ≡ spelled r ++ more → refusal_of (checks m rows watched (call_of r)) ≡ None → Fault m rows watched before rest why → ⊥
  faulty_spelled r more why e made (Fault.cut_short h) = cut_spelled r more e h
  faulty_spelled r more why e made (Fault.misplaced h) = misplaced_spelled r more e h
  faulty_spelled r more why e made (Fault.turned_down s y v q b) =
      some_none _ _ v b made (ap (λ t. refusal_of (checks m rows watched (call_of t))) (spelled_apart s r y more (sym q ∙ e)).0)
  faulty_spelled r more why e made (Fault.miscounted n y q off) = spelled_closing r n more y (sym e ∙ q)

  -- nor a last record with the right count
  pub faulty_closing : (more : List ℕ) (why : Refusal) → rest ≡ closing before ++ more → Fault m rows watched before rest why → ⊥
  faulty_closing more why e (Fault.cut_short h) = cut_closing before more e h
  faulty_closing more why e (Fault.misplaced h) = misplaced_closing before more e h
  faulty_closing more why e (Fault.turned_down s y v q b) = spelled_closing s before y more (sym q ∙ e)
  faulty_closing more why e (Fault.miscounted n y q off) = off (closing_apart n before y more (sym q ∙ e)).0

  pub fault_one : (why other : Refusal) → Fault m rows watched before rest why → Fault m rows watched before rest other → why ≡ other
  fault_one why other (Fault.cut_short h) (Fault.cut_short k) = refl
  fault_one why other (Fault.cut_short h) (Fault.misplaced k) = absurd (cut_misplaced Later later rest h k)
  fault_one why other (Fault.cut_short h) (Fault.turned_down s y v q b) = absurd (cut_spelled s y q h)
  fault_one why other (Fault.cut_short h) (Fault.miscounted n y q off) = absurd (cut_closing n y q h)
  fault_one why other (Fault.misplaced h) (Fault.cut_short k) = absurd (cut_misplaced Later later rest k h)
  fault_one why other (Fault.misplaced h) (Fault.misplaced k) = refl
  fault_one why other (Fault.misplaced h) (Fault.turned_down s y v q b) = absurd (misplaced_spelled s y q h)
  fault_one why other (Fault.misplaced h) (Fault.miscounted n y q off) = absurd (misplaced_closing n y q h)
  fault_one why other (Fault.turned_down r x w p a) (Fault.cut_short k) = absurd (cut_spelled r x p k)
  fault_one why other (Fault.turned_down r x w p a) (Fault.misplaced k) = absurd (misplaced_spelled r x p k)
  fault_one why other (Fault.turned_down r x w p a) (Fault.turned_down s y v q b) =
      some_same _ _ w v a b (ap (λ t. refusal_of (checks m rows watched (call_of t))) (spelled_apart r s x y (sym p ∙ q)).0)
  fault_one why other (Fault.turned_down r x w p a) (Fault.miscounted n y q off) = absurd (spelled_closing r n x y (sym p ∙ q))
  fault_one why other (Fault.miscounted n x p off) (Fault.cut_short k) = absurd (cut_closing n x p k)
  fault_one why other (Fault.miscounted n x p off) (Fault.misplaced k) = absurd (misplaced_closing n x p k)
  fault_one why other (Fault.miscounted n x p off) (Fault.turned_down s y v q b) = absurd (spelled_closing s n y x (sym q ∙ p))
  fault_one why other (Fault.miscounted n x p off) (Fault.miscounted k y q off') = refl
