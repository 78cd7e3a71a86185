-- The worked figures, by computation.
use Rattle.std.proofs.Common.{◌≡◌, ℕ, leb, [], ◌∷◌, ◌++◌, Some, None, refl, lit≤}
use Rattle.analysis.specs.History.{enrol, Reached, opened, made}
use Rattle.analysis.specs.Legal.{released_at, released_before, witness}
use Rattle.analysis.specs.Watching.{weighed}
use Rattle.edf.proofs.Run.{run_determined}
use Rattle.edf.specs.Jobs.{job, DueBy}
use Rattle.edf.specs.Run.{Outcome, missed, Runs}
use Rattle.edf.specs.Schedule.{Schedule, service}
use Rattle.lines.specs.Changes.{without}
use Rattle.lines.specs.Demand.{demand}
use Rattle.lines.specs.Rest.{first, every, some, product, deadlines, first_rest, full_list}
use Rattle.refusal.specs.Answers.{refusal_of}
use Rattle.refusal.specs.declared.layer.Layer.TheVariants.{Roster}
use Rattle.refusal.specs.declared.reason.Reason.TheVariants.{SupplyNotCovered}
use Rattle.roster.proofs.Passing.{passes_made}
use Rattle.roster.specs.Certificate.{listed, each}
use Rattle.roster.specs.Working.{checks}
use Rattle.run.specs.Slots.{given_in, schedule}
use Rattle.run.specs.Timed.{largest, horizon}
use Rattle.std.proofs.lemmas.Bool.{leb-true}
use Rattle.supply.specs.Meaning.{Meaning}
use Rattle.supply.specs.Row.{upto, lowest}
use Rattle.supply.specs.Whole.{whole}
use Rattle.worked.proofs.Judging.{fits_by, overloaded_by}
use Rattle.worked.proofs.Running.{follows_by, misses_by, stops_by}
use Rattle.worked.proofs.Trying.{below, below_each, members}
use Rattle.worked.specs.Figures.{Judged, Passes, Figures}
use Rattle.worked.specs.Given.{line, three_lines, close_lines, loose_lines, three_watched, close_watched, loose_watched, cut_62, cut_19, cut_25, cut_25_badly, enrols, two_thirds, half, quarter, overloaded_lines, witness_jobs, witness_timed, witness_slots}

three_rest : (a b c : ℕ) → first_rest (three_lines a b c) ≡ 62
unfolding first every product
three_rest a b c = refl

three_list : (a b c : ℕ) → full_list (three_lines a b c) ≡ three_watched
unfolding first every some product deadlines
three_list a b c = refl

cuts_62 : (a b c : ℕ) → Passes whole (three_lines a b c) three_watched cut_62
unfolding listed each weighed
cuts_62 a b c = refl

cuts_19 : (a b c : ℕ) → Passes whole (three_lines a b c) three_watched cut_19
unfolding listed each weighed
cuts_19 a b c = refl

cuts_19_then : (a b c : ℕ) → Passes whole (three_lines a b c) (without 62 three_watched) cut_19
unfolding listed each weighed
cuts_19_then a b c = refl

close_rest : (a b : ℕ) → first_rest (close_lines a b) ≡ 38
unfolding first every product
close_rest a b = refl

close_list : (a b : ℕ) → full_list (close_lines a b) ≡ close_watched
unfolding first every some product deadlines
close_list a b = refl

cuts_25 : (a b : ℕ) → Passes whole (close_lines a b) close_watched cut_25
unfolding listed each weighed
cuts_25 a b = refl

refuses_25 : (a b : ℕ) → refusal_of (checks whole (close_lines a b) close_watched cut_25_badly) ≡ Some (record { reason = SupplyNotCovered; layer = Roster; place = 0 })
unfolding listed each weighed
refuses_25 a b = refl

-- the lines are enrolled one after another, on whatever supply
three_reached : (m : Meaning) → Reached m (enrols (three_lines 3 2 3)) (three_lines 3 2 3) three_watched
unfolding first every some product deadlines
three_reached m = made (enrol (line 13 10 3)) (made (enrol (line 11 7 2)) (made (enrol (line 7 5 3)) opened refl) refl) refl

overloaded_reached : (m : Meaning) → Reached m (enrols overloaded_lines) overloaded_lines three_watched
unfolding first every some product deadlines
overloaded_reached m = made (enrol (line 13 10 4)) (made (enrol (line 11 7 3)) (made (enrol (line 7 5 3)) opened refl) refl) refl

close_reached : (m : Meaning) → Reached m (enrols (close_lines 2 10)) (close_lines 2 10) close_watched
unfolding first every some product deadlines
close_reached m = made (enrol (line 13 12 10)) (made (enrol (line 8 6 2)) opened refl) refl

loose_reached_5 : (m : Meaning) → Reached m (enrols (loose_lines 2 5)) (loose_lines 2 5) loose_watched
unfolding first every some product deadlines
loose_reached_5 m = made (enrol (line 15 9 5)) (made (enrol (line 8 5 2)) opened refl) refl

loose_reached_4 : (m : Meaning) → Reached m (enrols (loose_lines 2 4)) (loose_lines 2 4) loose_watched
unfolding first every some product deadlines
loose_reached_4 m = made (enrol (line 15 9 4)) (made (enrol (line 8 5 2)) opened refl) refl

three_fit : Judged whole (enrols (three_lines 3 2 3)) (three_lines 3 2 3) three_watched None
unfolding demand members
three_fit = record { reached = three_reached whole; says = fits_by whole (three_lines 3 2 3) three_watched refl }

three_fit_cut : Judged whole (enrols (three_lines 3 2 3) ++ (cut_62 ∷ cut_19 ∷ [])) (three_lines 3 2 3) (without 19 (without 62 three_watched)) None
unfolding demand members
three_fit_cut = record {
  reached = made cut_19 (made cut_62 (three_reached whole) (passes_made whole (three_lines 3 2 3) three_watched cut_62 (cuts_62 3 2 3))) (passes_made whole (three_lines 3 2 3) (without 62 three_watched) cut_19 (cuts_19_then 3 2 3));
  says = fits_by whole (three_lines 3 2 3) (without 19 (without 62 three_watched)) refl;
}

three_overloaded : Judged whole (enrols overloaded_lines) overloaded_lines three_watched (Some 12)
unfolding demand some listed below
three_overloaded = record { reached = overloaded_reached whole; says = overloaded_by whole overloaded_lines three_watched 12 12 refl refl refl refl refl }

close_overloaded : Judged whole (enrols (close_lines 2 10) ++ (cut_25 ∷ [])) (close_lines 2 10) (6 ∷ 12 ∷ 14 ∷ 22 ∷ 30 ∷ 38 ∷ []) (Some 25)
unfolding demand some listed below
close_overloaded = record {
  reached = made cut_25 (close_reached whole) (passes_made whole (close_lines 2 10) close_watched cut_25 (cuts_25 2 10));
  says = overloaded_by whole (close_lines 2 10) (6 ∷ 12 ∷ 14 ∷ 22 ∷ 30 ∷ 38 ∷ []) 38 25 refl refl refl refl refl;
}

loose_fit : Judged whole (enrols (loose_lines 2 5)) (loose_lines 2 5) loose_watched None
unfolding demand members
loose_fit = record { reached = loose_reached_5 whole; says = fits_by whole (loose_lines 2 5) loose_watched refl }

loose_overloaded : Judged two_thirds (enrols (loose_lines 2 5)) (loose_lines 2 5) loose_watched (Some 9)
unfolding demand some listed below
loose_overloaded = record { reached = loose_reached_5 two_thirds; says = overloaded_by two_thirds (loose_lines 2 5) loose_watched 9 9 refl refl refl refl refl }

loose_fit_part : Judged two_thirds (enrols (loose_lines 2 4)) (loose_lines 2 4) loose_watched None
unfolding demand members
loose_fit_part = record { reached = loose_reached_4 two_thirds; says = fits_by two_thirds (loose_lines 2 4) loose_watched refl }

witness_is : witness overloaded_lines 12 ≡ witness_jobs
unfolding released_at released_before
witness_is = refl

witness_ends : horizon overloaded_lines witness_jobs ≡ 12
unfolding largest
witness_ends = refl

abbrev given : ℕ → ℕ
given = given_in whole (whole.worst 12)

witness_misses : Runs given witness_timed 12 (schedule witness_slots) (missed 3 12)
unfolding service below
witness_misses = (follows_by given witness_timed (schedule witness_slots) 12 refl, stops_by witness_slots 12 (lit≤ tt), misses_by given witness_timed (schedule witness_slots) 3 12 refl refl refl refl)

witness_due : DueBy witness_timed 12
unfolding below
witness_due k l = leb-true (job witness_timed k).deadline 12 (below_each (λ i. leb (job witness_timed i).deadline 12) 4 refl k l)

witness_only : (σ : Schedule) (o : Outcome) → Runs given witness_timed 12 σ o → (o ≡ missed 3 12) × ((s : ℕ) → σ s ≡ schedule witness_slots s)
witness_only σ o runs = run_determined given witness_timed 12 witness_due σ (schedule witness_slots) o (missed 3 12) runs witness_misses

half_least : (half.least 3 ≡ 1) × (half.worst 3 ≡ 1) × (half.least 4 ≡ 2)
unfolding upto lowest
half_least = (refl, refl, refl)

quarter_least : quarter.least 4 ≡ 1
unfolding upto lowest
quarter_least = refl

pub figures : Figures
figures = record {
  three_rest = three_rest;
  three_list = three_list;
  three_many = refl;
  three_counts = λ a b c. refl;
  cuts_62 = cuts_62;
  cuts_19 = cuts_19;
  cuts_19_then = cuts_19_then;
  three_fit = three_fit;
  three_fit_cut = three_fit_cut;
  three_overloaded = three_overloaded;
  witness_is = witness_is;
  witness_ends = witness_ends;
  witness_misses = witness_misses;
  witness_only = witness_only;
  close_rest = close_rest;
  close_list = close_list;
  cuts_25 = cuts_25;
  refuses_25 = refuses_25;
  refused_11 = refl;
  close_overloaded = close_overloaded;
  loose_fit = loose_fit;
  loose_overloaded = loose_overloaded;
  loose_fit_part = loose_fit_part;
  half_lawful = refl;
  quarter_lawful = refl;
  two_thirds_lawful = refl;
  half_least_3 = (half_least.0, half_least.1);
  half_least_4 = half_least.2;
  quarter_least_4 = quarter_least;
}
