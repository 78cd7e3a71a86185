-- A call is made exactly where none of its checks fails, so histories go on whatever was refused.
use Rattle.std.proofs.Common.{◌≡◌, ℕ, ◌*◌, ◌≤◌, Bool, true, false, not, ◌||◌, eqb, ltb, List, [], ◌∷◌, ◌++◌, length, Some, None, Ok, Err, Result, sym, refl, ap, subst, arith}
use Rattle.analysis.specs.History.{Call, enrol, strike, recost, cut, Accepted, rows_after, watched_after, Made, Reached, made, refused}
use Rattle.analysis.specs.Watching.{Cite, weighed}
use Rattle.lines.specs.Calls.{outside}
use Rattle.lines.specs.Demand.{no_row, count}
use Rattle.lines.specs.declared.row.Row.{Row}
use Rattle.refusal.proofs.Checks.{passed_first, pass_first, passed_both, pass_both}
use Rattle.refusal.specs.Answers.{Check, check, refusal_of, Answered, left}
use Rattle.refusal.specs.declared.Refusal.{Refusal}
use Rattle.refusal.specs.declared.reason.Reason.TheVariants.{NotWatched, CertificateOutOfRange}
use Rattle.roster.proofs.Each.{each_passed, each_passes}
use Rattle.roster.proofs.Listed.{listed_has, has_listed}
use Rattle.roster.specs.Certificate.{listed, each, weight_check, cited_check, count_check, supply_check, figure_checks, cut_checks}
use Rattle.roster.specs.Working.{rows_in, watched_in, checks, Works}
use Rattle.roster.specs.declared.roster.Roster.{Roster}
use Rattle.std.proofs.ByRecursion.{All-weaker, All-get_or, All-from_get_or}
use Rattle.std.proofs.lemmas.Bool.{eq-eqb}
use Rattle.std.specs.List.{ContainsAt as Has}
use Rattle.supply.specs.Meaning.{Meaning}

ranged : (low high x : ℕ) → outside low high x ≡ false → (low ≤ x) × (x ≤ high)
ranged low high x e = (grind arith, grind arith)

in_range : (low high x : ℕ) → low ≤ x → x ≤ high → outside low high x ≡ false
in_range low high x l h = grind arith

within : (a b : ℕ) → ltb b a ≡ false → a ≤ b
within a b e = grind arith

not_over : (a b : ℕ) → a ≤ b → ltb b a ≡ false
not_over a b l = grind arith

off_on : (b : Bool) → not b ≡ false → b ≡ true
off_on true e = refl
off_on false e = absurd (grind arith)

cited_fine : (watched : List ℕ) (d x : ℕ) → (not (listed x watched) || eqb x d) ≡ false → Has watched x × (x ≡ d → ⊥)
cited_fine watched d x e = (listed_has x watched (grind arith), λ same. let is = eq-eqb x d same in let off : eqb x d ≡ false = grind arith in absurd (grind arith))

fine_cited : (watched : List ℕ) (d x : ℕ) → Has watched x → (x ≡ d → ⊥) → (not (listed x watched) || eqb x d) ≡ false
fine_cited watched d x h apart = let is = has_listed x watched h in grind arith

module _ (m : Meaning) (rows : List Row) (watched : List ℕ) (d divisor : ℕ) (cites : List Cite) where
  abbrev number_check : Check
  number_check = check (outside 1 8 (length cites)) CertificateOutOfRange

  -- the checks behind each kind
  abbrev pub behind_counts : List Check
  behind_counts = supply_check m d divisor cites ∷ []

  abbrev pub behind_cites : List Check
  behind_cites = each (count_check d divisor cites) 0 rows ++ behind_counts

  abbrev pub behind_watched : List Check
  behind_watched = each (cited_check watched d) 1 cites ++ behind_cites

  abbrev pub behind_figures : List Check
  behind_figures = check (not (listed d watched)) NotWatched ∷ behind_watched

  cut_accepted : refusal_of (cut_checks m rows watched d divisor cites) ≡ None → Accepted m rows watched d divisor cites
  cut_accepted e =
      let figures = passed_both (figure_checks divisor cites) behind_figures e in
      let one = passed_first (check (outside 1 1000 divisor) CertificateOutOfRange) (number_check ∷ each weight_check 1 cites) figures.0 in
      let two = passed_first number_check (each weight_check 1 cites) one.1 in
      let four = passed_first (check (not (listed d watched)) NotWatched) behind_watched figures.1 in
      let five = passed_both (each (cited_check watched d) 1 cites) behind_cites four.1 in
      let six = passed_both (each (count_check d divisor cites) 0 rows) behind_counts five.1 in
      let seven = passed_first (supply_check m d divisor cites) [] six.1 in
      let weights = each_passed weight_check (λ cite. outside 1 1000 cite.weight) (λ p x. refl) 1 cites two.1 in
      let cited = each_passed (cited_check watched d) (λ cite. not (listed cite.deadline watched) || eqb cite.deadline d) (λ p x. refl) 1 cites five.0 in
      let counts = each_passed (count_check d divisor cites) (λ row. ltb (weighed (count row) cites) (divisor * count row d)) (λ p x. refl) 0 rows six.0 in
      record {
        divisor_in_range = ranged 1 1000 divisor one.0;
        cites_in_range = ranged 1 8 (length cites) two.0;
        weights_in_range = All-weaker _ _ (λ cite h. ranged 1 1000 cite.weight h) cites weights;
        is_watched = listed_has d watched (off_on (listed d watched) four.0);
        certifies = record {
          divides = (ranged 1 1000 divisor one.0).0;
          cited = All-weaker _ _ (λ cite h. cited_fine watched d cite.deadline h) cites cited;
          counts = λ i l. within _ _ (All-get_or _ rows i no_row l counts);
          supply = within _ _ seven.0;
        };
      }

  accepted_cut : Accepted m rows watched d divisor cites → refusal_of (cut_checks m rows watched d divisor cites) ≡ None
  accepted_cut a =
      let weights = each_passes weight_check (λ cite. outside 1 1000 cite.weight) (λ p x. refl) 1 cites (All-weaker _ _ (λ cite h. in_range 1 1000 cite.weight h.0 h.1) cites a.weights_in_range) in
      let cited = each_passes (cited_check watched d) (λ cite. not (listed cite.deadline watched) || eqb cite.deadline d) (λ p x. refl) 1 cites (All-weaker _ _ (λ cite h. fine_cited watched d cite.deadline h.0 h.1) cites a.certifies.cited) in
      let counts = each_passes (count_check d divisor cites) (λ row. ltb (weighed (count row) cites) (divisor * count row d)) (λ p x. refl) 0 rows (All-from_get_or _ rows no_row (λ i l. not_over _ _ (a.certifies.counts i l))) in
      let here = has_listed d watched a.is_watched in
      let seven = pass_first (supply_check m d divisor cites) [] (not_over _ _ a.certifies.supply) refl in
      let six = pass_both (each (count_check d divisor cites) 0 rows) behind_counts counts seven in
      let five = pass_both (each (cited_check watched d) 1 cites) behind_cites cited six in
      let four = pass_first (check (not (listed d watched)) NotWatched) behind_watched (ap not here) five in
      let two = pass_first number_check (each weight_check 1 cites) (in_range 1 8 (length cites) a.cites_in_range.0 a.cites_in_range.1) weights in
      let one = pass_first (check (outside 1 1000 divisor) CertificateOutOfRange) (number_check ∷ each weight_check 1 cites) (in_range 1 1000 divisor a.divisor_in_range.0 a.divisor_in_range.1) two in
      pass_both (figure_checks divisor cites) behind_figures one four

pub passes_made : (m : Meaning) (rows : List Row) (watched : List ℕ) (call : Call) → refusal_of (checks m rows watched call) ≡ None → Made m rows watched call
passes_made m rows watched (enrol row) e = rw e refl
passes_made m rows watched (strike number) e = grind arith
passes_made m rows watched (recost number cost) e = grind arith
passes_made m rows watched (cut d divisor cites) e = cut_accepted m rows watched d divisor cites e

pub made_passes : (m : Meaning) (rows : List Row) (watched : List ℕ) (call : Call) (e : Refusal) → refusal_of (checks m rows watched call) ≡ Some e → Made m rows watched call → ⊥
made_passes m rows watched (enrol row) e some h = grind arith
made_passes m rows watched (strike number) e some h = grind arith
made_passes m rows watched (recost number cost) e some h = grind arith
made_passes m rows watched (cut d divisor cites) e some h = let none = accepted_cut m rows watched d divisor cites h in grind arith

history_on : {A : Type 0} (m : Meaning) (rows : List Row) (watched : List ℕ) (call : Call) (r : Result A Refusal) (promised : A → Type 0) (rows' : List Row) (watched' : List ℕ) → Answered r (checks m rows watched call) promised → rows' ≡ left r (rows_after rows call) rows → watched' ≡ left r (watched_after rows watched call) watched → (calls : List Call) → Reached m calls rows watched → Reached m (calls ++ (call ∷ [])) rows' watched'
history_on m rows watched call (Ok x) promised rows' watched' h e f calls before =
    subst (λ rs. Reached m (calls ++ (call ∷ [])) rs watched') (sym e) (subst (λ ws. Reached m (calls ++ (call ∷ [])) (rows_after rows call) ws) (sym f) (made call before (passes_made m rows watched call h.0)))
history_on m rows watched call (Err why) promised rows' watched' h e f calls before =
    subst (λ rs. Reached m (calls ++ (call ∷ [])) rs watched') (sym e) (subst (λ ws. Reached m (calls ++ (call ∷ [])) rows ws) (sym f) (refused call before (made_passes m rows watched call why h)))

-- what stays whether the call is made or refused
pub left_same : {A B : Type 0} (r : Result A Refusal) (x : B) → x ≡ left r x x
left_same (Ok y) x = refl
left_same (Err e) x = refl

-- what a call does, from what it answers and leaves
pub works_by : {S A : Type 0} (m : Meaning) (before after : Roster S) (call : Call) (r : Result A Refusal) (promised : A → Type 0) → Answered r (checks m (rows_in before) (watched_in before) call) promised → rows_in after ≡ left r (rows_after (rows_in before) call) (rows_in before) → watched_in after ≡ left r (watched_after (rows_in before) (watched_in before) call) (watched_in before) → after.supply ≡ before.supply → Works m before after call r promised
works_by m before after call r promised h e f s = record {
  answered = h;
  lines = e;
  watched = f;
  supply = s;
  history = history_on m (rows_in before) (watched_in before) call r promised (rows_in after) (watched_in after) h e f;
}
