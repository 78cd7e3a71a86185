-- One case of everything that the theorems speak of, by computation.
use Rattle.std.proofs.Common.{◌≡◌, ℕ, zero, suc, ◌*◌, ◌<◌, ◌≤◌, List, [], ◌∷◌, length, get_or, None, refl, arith, lit≤}
use Rattle.analysis.proofs.Reaching.{reached_exact}
use Rattle.analysis.proofs.Witness.{witness_legal}
use Rattle.analysis.specs.Example.{line, two_lines, two_enrols, close_lines, cites, Example}
use Rattle.analysis.specs.History.{enrol, Reached, opened, made}
use Rattle.analysis.specs.Verdict.{Verdict}
use Rattle.analysis.specs.Watching.{Within, weighed}
use Rattle.lines.specs.Demand.{AllLawful, no_row, count, demand}
use Rattle.lines.specs.Rest.{first, every, some, product, deadlines, full_list}
use Rattle.std.proofs.ByRecursion.{all-has}
use Rattle.std.specs.List.{ContainsAt as Has, AllByRecursion}
use Rattle.supply.specs.Bottoms.{whole_lawful}
use Rattle.supply.specs.Whole.{whole}

abbrev listed : List ℕ
listed = 5 ∷ 9 ∷ 13 ∷ []

reached : Reached whole two_enrols two_lines listed
unfolding first every some product deadlines
reached = made (enrol (line 15 9 4)) (made (enrol (line 8 5 2)) opened refl) refl

lawful_two : AllLawful two_lines
lawful_two zero l = (omega arith, omega arith, omega arith, omega arith, omega arith)
lawful_two (suc zero) l = (omega arith, omega arith, omega arith, omega arith, omega arith)
lawful_two (suc (suc i)) l = absurd (omega arith)

fits : Verdict whole two_lines listed None
unfolding demand
fits d h = all-has (Within whole two_lines) listed d (omega arith, (omega arith, (omega arith, tt))) h

cited : AllByRecursion (λ cite. Has (full_list close_lines) cite.deadline × (cite.deadline ≡ 25 → ⊥)) cites
unfolding first every some product deadlines
cited = (((6, lit≤ tt, λ e. refl), λ e. omega arith), (((1, lit≤ tt, λ e. refl), λ e. omega arith), tt))

covered : (i : ℕ) → i < length close_lines → 2 * count (get_or close_lines i no_row) 25 ≤ weighed (count (get_or close_lines i no_row)) cites
unfolding weighed
covered zero l = omega arith
covered (suc zero) l = omega arith
covered (suc (suc i)) l = absurd (omega arith)

supplied : weighed whole.least cites ≤ 2 * 25
unfolding weighed
supplied = omega arith

pub example : Example
example = record {
  supply = whole_lawful;
  lines = lawful_two;
  reached = reached;
  exact = (reached_exact whole whole_lawful two_enrols two_lines listed reached).0;
  verdict = fits;
  legal = witness_legal two_lines 13 lawful_two;
  certificate = record { divides = omega arith; cited = cited; counts = covered; supply = supplied };
}
