-- A string of bytes has one reading: where two readings part, one of them stops at a record that the other goes past.
use Rattle.std.proofs.Common.{◌≡◌, ℕ, suc, ◌+◌, ◌-◌, ◌<◌, ◌≤◌, List, [], ◌∷◌, ◌++◌, length, None, sym, refl, ap, ◌∙◌, subst, append_assoc, append-nil, arith}
use Rattle.analysis.specs.History.{rows_after, watched_after}
use Rattle.grammar.proofs.Faults.{first_faulty, first_fault_one, faulty_spelled, faulty_closing, fault_one}
use Rattle.grammar.proofs.Spelling.{spelled_apart, closing_apart, spelled_closing, opening_apart}
use Rattle.grammar.specs.Reading.{rows_through, watched_through, AllMade, GoodTo, longest, by_sheet, FaultFirst, Fault, Refused, Outcome, accepted, refused, Reading}
use Rattle.grammar.specs.Records.{Record, call_of, calls_of, spelled, closing, spelled_all}
use Rattle.grammar.specs.Supplies.{supply_of}
use Rattle.grammar.specs.Theorems.{OneReading}
use Rattle.grammar.specs.declared.fields.Fields.{Fields}
use Rattle.lines.specs.declared.row.Row.{Row}
use Rattle.refusal.specs.Answers.{refusal_of}
use Rattle.refusal.specs.declared.Refusal.{Refusal}
use Rattle.refusal.specs.declared.reason.Reason.TheVariants.{TooLarge, BytesAfterEnd}
use Rattle.roster.specs.Working.{checks}
use Rattle.supply.specs.Meaning.{Meaning}

-- no record begins here whose call is made
abbrev pub Stops : Meaning → List Row → List ℕ → List ℕ → Type 0
Stops m rows watched rest =
    (r : Record) (more : List ℕ) → rest ≡ spelled r ++ more → refusal_of (checks m rows watched (call_of r)) ≡ None → ⊥

-- the same behind records, over some lines and a watch list
abbrev pub StopsBehind : Meaning → List Row → List ℕ → List Record → List ℕ → Type 0
StopsBehind m rows watched rs rest = Stops m (rows_through rows (calls_of rs)) (watched_through rows watched (calls_of rs)) rest

module _ (m : Meaning) where
  -- records that are all made, up to where none goes on, are the same records
  pub same_records : (rows : List Row) (watched : List ℕ) (rs ss : List Record) (a b : List ℕ) → AllMade m rows watched (calls_of rs) → AllMade m rows watched (calls_of ss) → StopsBehind m rows watched rs a → StopsBehind m rows watched ss b → spelled_all rs ++ a ≡ spelled_all ss ++ b → (rs ≡ ss) × (a ≡ b)
  unfolding spelled_all rows_through watched_through AllMade
  same_records rows watched [] [] a b made made' stops stops' e = (refl, e)
  same_records rows watched [] (s ∷ ss) a b made made' stops stops' e = absurd (stops s (spelled_all ss ++ b) (e ∙ append_assoc (spelled s) (spelled_all ss) b) made'.0)
  same_records rows watched (r ∷ rs) [] a b made made' stops stops' e = absurd (stops' r (spelled_all rs ++ a) (sym e ∙ append_assoc (spelled r) (spelled_all rs) a) made.0)
  same_records rows watched (r ∷ rs) (s ∷ ss) a b made made' stops stops' e =
      let known = spelled_apart r s (spelled_all rs ++ a) (spelled_all ss ++ b) (sym (append_assoc (spelled r) (spelled_all rs) a) ∙ e ∙ append_assoc (spelled s) (spelled_all ss) b) in
      let made'' = subst (λ t. AllMade m (rows_after rows (call_of t)) (watched_after rows watched (call_of t)) (calls_of ss)) (sym known.0) made'.1 in
      let stops'' = subst (λ t. StopsBehind m (rows_after rows (call_of t)) (watched_after rows watched (call_of t)) ss b) (sym known.0) stops' in
      let more = same_records (rows_after rows (call_of r)) (watched_after rows watched (call_of r)) rs ss a b made.1 made'' stops stops'' known.1 in
      (λ i. known.0 i ∷ more.0 i, more.1)

-- the last record that counts these
abbrev last : List Record → List ℕ
last records = closing (suc (length records))

-- what is wrong behind these
abbrev Faulty : Fields → List Record → List ℕ → Refusal → Type 0
Faulty fields records rest why =
    Fault (supply_of fields) (rows_through [] (calls_of records)) (watched_through [] [] (calls_of records)) (suc (length records)) rest why

-- how a sheet ends behind good records
data Ended (bytes : List ℕ) (fields : Fields) (records : List Record) (rest : List ℕ) : Outcome → Type 0 where
  whole : rest ≡ last records → Ended bytes fields records rest (accepted fields records)
  followed : (more : List ℕ) → rest ≡ last records ++ more → 0 < length more → Ended bytes fields records rest (refused (by_sheet BytesAfterEnd) (3 + length records) (length bytes - length more))
  faulty : (why : Refusal) → Faulty fields records rest why → Ended bytes fields records rest (refused why (2 + length records) (length bytes - length rest))

module _ (bytes : List ℕ) where
  module _ (fields : Fields) (records : List Record) (rest : List ℕ) where
    -- no record goes on where a sheet ends
    ended_stops : (o : Outcome) → Ended bytes fields records rest o → StopsBehind (supply_of fields) [] [] records rest
    ended_stops o (whole e) r more f made = spelled_closing r (suc (length records)) more [] (sym f ∙ e ∙ sym (append-nil (last records)))
    ended_stops o (followed y e some) r more f made = spelled_closing r (suc (length records)) more y (sym f ∙ e)
    ended_stops o (faulty why h) r more f made = faulty_spelled (supply_of fields) _ _ (suc (length records)) rest r more why f made h

    followed_whole : (more : List ℕ) → rest ≡ last records → rest ≡ last records ++ more → 0 < length more → ⊥
    followed_whole more e f some =
        omega (arith, ap length (closing_apart (suc (length records)) (suc (length records)) [] more (append-nil (last records) ∙ sym e ∙ f)).1)

    faulty_followed : (more : List ℕ) (why : Refusal) → rest ≡ last records ++ more → Faulty fields records rest why → ⊥
    faulty_followed more why e h = faulty_closing (supply_of fields) _ _ (suc (length records)) rest more why e h

    faulty_whole : (why : Refusal) → rest ≡ last records → Faulty fields records rest why → ⊥
    faulty_whole why e h = faulty_followed [] why (e ∙ sym (append-nil (last records))) h

    -- and it ends in one way
    ended_one : (o p : Outcome) → Ended bytes fields records rest o → Ended bytes fields records rest p → o ≡ p
    ended_one o p (whole e) (whole f) = refl
    ended_one o p (whole e) (followed y f some) = absurd (followed_whole y e f some)
    ended_one o p (whole e) (faulty v k) = absurd (faulty_whole v e k)
    ended_one o p (followed x e some) (whole f) = absurd (followed_whole x f e some)
    ended_one o p (followed x e some) (followed y f some') =
        ap (λ more. refused (by_sheet BytesAfterEnd) (3 + length records) (length bytes - length more)) (closing_apart (suc (length records)) (suc (length records)) x y (sym e ∙ f)).1
    ended_one o p (followed x e some) (faulty v k) = absurd (faulty_followed x v e k)
    ended_one o p (faulty w h) (whole f) = absurd (faulty_whole w f h)
    ended_one o p (faulty w h) (followed y f some) = absurd (faulty_followed y w f h)
    ended_one o p (faulty w h) (faulty v k) =
        ap (λ why. refused why (2 + length records) (length bytes - length rest)) (fault_one (supply_of fields) _ _ (suc (length records)) rest w v h k)

  -- the same of equal fields, records and rests
  ended_alike : (f g : Fields) (rs ss : List Record) (a b : List ℕ) (o p : Outcome) → f ≡ g → rs ≡ ss → a ≡ b → Ended bytes f rs a o → Ended bytes g ss b p → o ≡ p
  ended_alike f g rs ss a b o p e e' e'' h k =
      ended_one f rs a o p h (subst (λ x. Ended bytes x rs a p) (sym e) (subst (λ x. Ended bytes g x a p) (sym e') (subst (λ x. Ended bytes g ss x p) (sym e'') k)))

  -- two sheets of the same bytes that are good up to their ends
  good_one : (f g : Fields) (rs ss : List Record) (a b : List ℕ) (o p : Outcome) → GoodTo bytes f rs a → GoodTo bytes g ss b → Ended bytes f rs a o → Ended bytes g ss b p → o ≡ p
  good_one f g rs ss a b o p good good' h k =
      let known = opening_apart f g (spelled_all rs ++ a) (spelled_all ss ++ b) (sym good.bytes_are ∙ good'.bytes_are) in
      let made = subst (λ x. AllMade (supply_of x) [] [] (calls_of ss)) (sym known.0) good'.calls_made in
      let stops = subst (λ x. StopsBehind (supply_of x) [] [] ss b) (sym known.0) (ended_stops g ss b p k) in
      let same = same_records (supply_of f) [] [] rs ss a b good.calls_made made (ended_stops f rs a o h) stops known.1 in
      ended_alike f g rs ss a b o p known.0 same.0 same.1 h k

-- a reading is of one of three shapes
data Shape (bytes : List ℕ) : Outcome → Type 0 where
  long : longest < length bytes → Shape bytes (refused (by_sheet TooLarge) 0 0)
  early : (why : Refusal) → length bytes ≤ longest → FaultFirst bytes why → Shape bytes (refused why 1 0)
  late : (fields : Fields) (records : List Record) (rest : List ℕ) (o : Outcome) → length bytes ≤ longest → GoodTo bytes fields records rest → Ended bytes fields records rest o → Shape bytes o

shape_refused : (bytes : List ℕ) (why : Refusal) (number byte : ℕ) → Refused bytes why number byte → Shape bytes (refused why number byte)
shape_refused bytes why number byte (Refused.too_long h) = long h
shape_refused bytes why number byte (Refused.at_first w l h) = early w l h
shape_refused bytes why number byte (Refused.at_later f rs rest w l good h) = late f rs rest _ l good (faulty w h)
shape_refused bytes why number byte (Refused.behind_last f rs more l good some) = late f rs (last rs ++ more) _ l good (followed more refl some)

shape : (bytes : List ℕ) (o : Outcome) → Reading bytes o → Shape bytes o
shape bytes (accepted fields records) h = late fields records (last records) (accepted fields records) h.within h.good (whole refl)
shape bytes (refused why number byte) h = shape_refused bytes why number byte h

first_good : (bytes : List ℕ) (fields : Fields) (records : List Record) (rest : List ℕ) (why : Refusal) → GoodTo bytes fields records rest → FaultFirst bytes why → ⊥
first_good bytes fields records rest why good h = first_faulty bytes fields (spelled_all records ++ rest) why good.bytes_are good.supply_named h

shape_one : (bytes : List ℕ) (o p : Outcome) → Shape bytes o → Shape bytes p → o ≡ p
shape_one bytes o p (long h) (long k) = refl
shape_one bytes o p (long h) (early v l k) = absurd (omega arith)
shape_one bytes o p (long h) (late g ss b q l good k) = absurd (omega arith)
shape_one bytes o p (early w l h) (long k) = absurd (omega arith)
shape_one bytes o p (early w l h) (early v l' k) = ap (λ why. refused why 1 0) (first_fault_one bytes w v h k)
shape_one bytes o p (early w l h) (late g ss b q l' good k) = absurd (first_good bytes g ss b w good h)
shape_one bytes o p (late f rs a q l good h) (long k) = absurd (omega arith)
shape_one bytes o p (late f rs a q l good h) (early v l' k) = absurd (first_good bytes f rs a v good k)
shape_one bytes o p (late f rs a q l good h) (late g ss b q' l' good' k) = good_one bytes f g rs ss a b q q' good good' h k

pub one_reading : OneReading
one_reading bytes one other h k = shape_one bytes one other (shape bytes one h) (shape bytes other k)
