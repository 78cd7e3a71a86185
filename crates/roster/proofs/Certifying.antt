-- The checks of a certificate one after another: what is left once some have passed.
use Rattle.std.proofs.Common.{◌≡◌, ℕ, ◌≤◌, true, false, not, List, length, None, ap, ◌∙◌, arith}
use Rattle.analysis.specs.Watching.{Cite}
use Rattle.lines.specs.Calls.{outside}
use Rattle.lines.specs.declared.row.Row.{Row}
use Rattle.refusal.proofs.Checks.{refusal_behind}
use Rattle.refusal.specs.Answers.{refusal_of}
use Rattle.roster.proofs.Passing.{behind_figures, behind_watched, behind_cites, behind_counts}
use Rattle.roster.specs.Certificate.{listed, each, weight_check, cited_check, count_check, figure_checks, cut_checks}
use Rattle.roster.specs.declared.certificate.Certificate.{Certificate}
use Rattle.std.proofs.lemmas.Bool.{cond-false}
use Rattle.supply.specs.Meaning.{Meaning}

module _ (m : Meaning) (rows : List Row) (watched : List ℕ) (d divisor : ℕ) (cites : List Cite) where
  pub past_figures : refusal_of (figure_checks divisor cites) ≡ None → refusal_of (cut_checks m rows watched d divisor cites) ≡ refusal_of (behind_figures m rows watched d divisor cites)
  past_figures = refusal_behind (figure_checks divisor cites) (behind_figures m rows watched d divisor cites)

  pub past_watched : refusal_of (figure_checks divisor cites) ≡ None → listed d watched ≡ true → refusal_of (cut_checks m rows watched d divisor cites) ≡ refusal_of (behind_watched m rows watched d divisor cites)
  past_watched figures here = past_figures figures ∙ cond-false (not (listed d watched)) _ _ (ap not here)

  pub past_cites : refusal_of (figure_checks divisor cites) ≡ None → listed d watched ≡ true → refusal_of (each (cited_check watched d) 1 cites) ≡ None → refusal_of (cut_checks m rows watched d divisor cites) ≡ refusal_of (behind_cites m rows watched d divisor cites)
  past_cites figures here cited = past_watched figures here ∙ refusal_behind (each (cited_check watched d) 1 cites) (behind_cites m rows watched d divisor cites) cited

  pub past_counts : refusal_of (figure_checks divisor cites) ≡ None → listed d watched ≡ true → refusal_of (each (cited_check watched d) 1 cites) ≡ None → refusal_of (each (count_check d divisor cites) 0 rows) ≡ None → refusal_of (cut_checks m rows watched d divisor cites) ≡ refusal_of (behind_counts m rows watched d divisor cites)
  past_counts figures here cited counts = past_cites figures here cited ∙ refusal_behind (each (count_check d divisor cites) 0 rows) (behind_counts m rows watched d divisor cites) counts

-- a certificate's figures, under their names
pub of_figures : {A : Type 0} (it : Certificate) (d q : ℕ) (bytes : List ℕ) (f : (d q : ℕ) → List ℕ → A) → (it.deadline ≡ d) × (it.divisor ≡ q) × (it.bytes.now ≡ bytes) → f d q bytes ≡ f it.deadline it.divisor it.bytes.now
of_figures it d q bytes f same = cc

-- once the divisor and the number of cites are in range, the weights are left
pub figures_weights : (divisor : ℕ) (cites : List Cite) → 1 ≤ divisor → divisor ≤ 1000 → 1 ≤ length cites → length cites ≤ 8 → refusal_of (figure_checks divisor cites) ≡ refusal_of (each weight_check 1 cites)
figures_weights divisor cites a b c d =
    let divisor-fine : outside 1 1000 divisor ≡ false = grind arith in
    let number-fine : outside 1 8 (length cites) ≡ false = grind arith in
    cond-false (outside 1 1000 divisor) _ _ divisor-fine ∙ cond-false (outside 1 8 (length cites)) _ _ number-fine
