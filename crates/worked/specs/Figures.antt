-- The worked figures as one statement, over the definitions that contracts cite. Assumes nothing.
use Rattle.std.specs.Prelude.{◌≡◌, ℕ, List, [], ◌∷◌, ◌++◌, map, length, Some, None, Option}
use Rattle.analysis.specs.History.{Call, Reached}
use Rattle.analysis.specs.Legal.{witness}
use Rattle.analysis.specs.Verdict.{Verdict}
use Rattle.edf.specs.Run.{Outcome, missed, Runs}
use Rattle.edf.specs.Schedule.{Schedule}
use Rattle.lines.specs.Changes.{without}
use Rattle.lines.specs.Demand.{count}
use Rattle.lines.specs.Rest.{first_rest, full_list}
use Rattle.lines.specs.declared.row.Row.{Row}
use Rattle.refusal.specs.Answers.{refusal_of}
use Rattle.refusal.specs.Numbers.{number_of}
use Rattle.refusal.specs.declared.layer.Layer.TheVariants.{Roster}
use Rattle.refusal.specs.declared.reason.Reason.TheVariants.{SupplyNotCovered}
use Rattle.roster.specs.Working.{checks}
use Rattle.run.specs.Slots.{given_in, schedule}
use Rattle.run.specs.Timed.{horizon}
use Rattle.supply.specs.Meaning.{Meaning}
use Rattle.supply.specs.Share.{LawfulShare}
use Rattle.supply.specs.Timetable.{LawfulTimetable}
use Rattle.supply.specs.Whole.{whole}
use Rattle.worked.specs.Given.{three_lines, close_lines, loose_lines, three_watched, close_watched, loose_watched, cut_62, cut_19, cut_25, cut_25_badly, enrols, two_thirds, half, quarter, overloaded_lines, witness_jobs, witness_timed, witness_slots}

-- After some calls on a supply, the lines and the watched deadlines are these, and so is the verdict.
pub record Judged (m : Meaning) (calls : List Call) (rows : List Row) (watched : List ℕ) (verdict : Option ℕ) : Type 0 where
  pub reached : Reached m calls rows watched
  pub says : Verdict m rows watched verdict

-- A call finds none of its checks failing.
abbrev pub Passes : Meaning → List Row → List ℕ → Call → Type 0
Passes m rows watched call = refusal_of (checks m rows watched call) ≡ None

pub record Figures : Type 0 where
  -- 7/5, 11/7 and 13/10, whatever their costs, rest first at 62.
  pub three_rest : (a b c : ℕ) → first_rest (three_lines a b c) ≡ 62
  -- Watched are these 18 deadlines.
  pub three_list : (a b c : ℕ) → full_list (three_lines a b c) ≡ three_watched
  pub three_many : length three_watched ≡ 18
  -- The counts at 40 are 6, 4 and 3.
  pub three_counts : (a b c : ℕ) → map (λ row. count row 40) (three_lines a b c) ≡ 6 ∷ 4 ∷ 3 ∷ []
  -- There 62 is cut by 40, 12 and 10, with divisor and weights 1,
  pub cuts_62 : (a b c : ℕ) → Passes whole (three_lines a b c) three_watched cut_62
  -- and 19 by 7 and 12, whether 62 is cut or not.
  pub cuts_19 : (a b c : ℕ) → Passes whole (three_lines a b c) three_watched cut_19
  pub cuts_19_then : (a b c : ℕ) → Passes whole (three_lines a b c) (without 62 three_watched) cut_19
  -- With costs 3, 2, 3 they fit, before and after the two cuts.
  pub three_fit : Judged whole (enrols (three_lines 3 2 3)) (three_lines 3 2 3) three_watched None
  pub three_fit_cut : Judged whole (enrols (three_lines 3 2 3) ++ (cut_62 ∷ cut_19 ∷ [])) (three_lines 3 2 3) (without 19 (without 62 three_watched)) None
  -- With costs 3, 3, 4 they are overloaded at 12.
  pub three_overloaded : Judged whole (enrols overloaded_lines) overloaded_lines three_watched (Some 12)
  -- The witness list there has four jobs. Its run in the witness phase goes up to 12, fills the slots, and misses job 3 at 12;
  pub witness_is : witness overloaded_lines 12 ≡ witness_jobs
  pub witness_ends : horizon overloaded_lines witness_jobs ≡ 12
  pub witness_misses : Runs (given_in whole (whole.worst 12)) witness_timed 12 (schedule witness_slots) (missed 3 12)
  -- and no run of it fills other slots or ends otherwise.
  pub witness_only : (σ : Schedule) (o : Outcome) → Runs (given_in whole (whole.worst 12)) witness_timed 12 σ o → (o ≡ missed 3 12) × ((s : ℕ) → σ s ≡ schedule witness_slots s)
  -- 8/6 and 13/12 rest first at 38, and these are watched.
  pub close_rest : (a b : ℕ) → first_rest (close_lines a b) ≡ 38
  pub close_list : (a b : ℕ) → full_list (close_lines a b) ≡ close_watched
  -- There 25 is cut with divisor 2 by 38 and 12, each of weight 1.
  pub cuts_25 : (a b : ℕ) → Passes whole (close_lines a b) close_watched cut_25
  -- With divisor 1 by 12 and 14 it is refused 11, by the roster, at place 0.
  pub refuses_25 : (a b : ℕ) → refusal_of (checks whole (close_lines a b) close_watched cut_25_badly) ≡ Some (record { reason = SupplyNotCovered; layer = Roster; place = 0 })
  pub refused_11 : number_of SupplyNotCovered ≡ 11
  -- With costs 2 and 10 and 25 cut they are overloaded at 25.
  pub close_overloaded : Judged whole (enrols (close_lines 2 10) ++ (cut_25 ∷ [])) (close_lines 2 10) (6 ∷ 12 ∷ 14 ∷ 22 ∷ 30 ∷ 38 ∷ []) (Some 25)
  -- 8/5 and 15/9 with costs 2 and 5 fit on the whole processor, and are overloaded at 9 on two thirds of it.
  pub loose_fit : Judged whole (enrols (loose_lines 2 5)) (loose_lines 2 5) loose_watched None
  pub loose_overloaded : Judged two_thirds (enrols (loose_lines 2 5)) (loose_lines 2 5) loose_watched (Some 9)
  -- With costs 2 and 4 they fit there, too.
  pub loose_fit_part : Judged two_thirds (enrols (loose_lines 2 4)) (loose_lines 2 4) loose_watched None
  -- The timetable of length 4 with the number 3 is lawful, and so are the shares of 1 in 2 over it and of 2 in 3 over the whole processor.
  pub half_lawful : LawfulTimetable 4 3
  pub quarter_lawful : LawfulShare half 1 2
  pub two_thirds_lawful : LawfulShare whole 2 3
  -- On the timetable least(3) is 1, in phase 1, and least(4) is 2.
  pub half_least_3 : (half.least 3 ≡ 1) × (half.worst 3 ≡ 1)
  pub half_least_4 : half.least 4 ≡ 2
  -- On the share of it least(4) is 1.
  pub quarter_least_4 : quarter.least 4 ≡ 1
