-- The verdict on an exact watch list is exact: where demand is within supply every window has room, and the witness has none.
use Rattle.std.proofs.Common.{◌≡◌, ℕ, zero, suc, ◌+◌, ◌-◌, ◌<◌, ◌≤◌, List, length, Some, None, Option, sym, refl, ap, subst, arith}
use Rattle.analysis.proofs.Asking.{demand_none}
use Rattle.analysis.proofs.Watching.{within_to}
use Rattle.analysis.proofs.Windows.{window_bound}
use Rattle.analysis.proofs.Witness as proved
use Rattle.analysis.specs.Legal.{Legal, witness}
use Rattle.analysis.specs.Verdict.{Exceeds, Overloaded, Verdict, MetIn, ExactVerdict}
use Rattle.analysis.specs.Watching.{Within, Exact}
use Rattle.edf.proofs.Construction.{existence}
use Rattle.edf.proofs.Crowding.{crowd}
use Rattle.edf.proofs.Meeting.{sufficiency}
use Rattle.edf.proofs.Optimal.{feasibility}
use Rattle.edf.proofs.Run.{run_exact, run_optimal}
use Rattle.edf.specs.Jobs.{job, DueBy}
use Rattle.edf.specs.Load.{RoomTo}
use Rattle.edf.specs.Run.{Outcome, met, missed, Runs}
use Rattle.edf.specs.Schedule.{Schedule, Meets}
use Rattle.lines.proofs.Listed.{deadlines_only, deadlines_bounded}
use Rattle.lines.specs.Demand.{AllLawful}
use Rattle.lines.specs.declared.row.Row.{Row}
use Rattle.run.specs.Timed.{timed, timed_list}
use Rattle.run.specs.declared.job.Job.{Job}
use Rattle.std.proofs.lemmas.List.{length-map}
use Rattle.supply.specs.Least.{phase_counts}
use Rattle.supply.specs.Meaning.{Meaning, Lawful}

none_is_not_some : (t : ℕ) → ◌≡◌ {A = Option ℕ} None (Some t) → ⊥
none_is_not_some t e = let z : ◌≡◌ {A = ℕ} 0 1 = cc in omega arith

same_some : (t u : ℕ) → ◌≡◌ {A = Option ℕ} (Some t) (Some u) → t ≡ u
same_some t u e = cc

module _ (m : Meaning) (law : Lawful m) (rows : List Row) (ok : AllLawful rows) where
  -- where demand is within supply up to b, every window up to b has room for a legal list
  room_to : (b : ℕ) → ((t : ℕ) → t ≤ b → Within m rows t) → (jobs : List Job) → Legal rows jobs → (p : ℕ) → p < m.phases → RoomTo (m.count p) (timed_list rows jobs) b
  room_to b within jobs legal p there a d le by =
      let asked = window_bound rows jobs legal ok a d le in
      let sure = within (d - a) (omega arith) in
      let given = law.windows p a (d - a) there in
      let end : a + (d - a) ≡ d = omega arith in
      let same = ap (m.count p) end in
      omega arith

  met_all : ((t : ℕ) → Within m rows t) → (jobs : List Job) → Legal rows jobs → (p : ℕ) → p < m.phases → MetIn m rows jobs p
  met_all within jobs legal p there =
      (feasibility (m.count p) (phase_counts m law p there) (timed_list rows jobs)).1 (λ a d le. room_to d (λ t h. within t) jobs legal p there a d le (omega arith))

  run_met : ((t : ℕ) → Within m rows t) → (jobs : List Job) → Legal rows jobs → (p : ℕ) → p < m.phases → (b : ℕ) (σ : Schedule) (outcome : Outcome) → Runs (m.count p) (timed_list rows jobs) b σ outcome → outcome ≡ met
  run_met within jobs legal p there b σ met runs = refl
  run_met within jobs legal p there b σ (missed k d) runs =
      let some-schedule = met_all within jobs legal p there in
      absurd (run_optimal (m.count p) (phase_counts m law p there) (timed_list rows jobs) b σ k d runs some-schedule.0 some-schedule.1)

  run_meets : ((t : ℕ) → Within m rows t) → (jobs : List Job) → Legal rows jobs → (p : ℕ) → p < m.phases → (b : ℕ) (σ : Schedule) (outcome : Outcome) → Runs (m.count p) (timed_list rows jobs) b σ outcome → (outcome ≡ met) × Meets (m.count p) (timed_list rows jobs) σ
  run_meets within jobs legal p there b σ outcome runs =
      let all = run_met within jobs legal p there b σ outcome runs in
      (all, (run_exact (m.count p) (timed_list rows jobs) b σ outcome runs).0 all)

  -- where demand exceeds supply, the witness list has no schedule in the worst phase
  unmet : (t : ℕ) → Exceeds m rows t → MetIn m rows (witness rows t) (m.worst t) → ⊥
  unmet t exceeds found =
      let p = m.worst t in
      let there = (law.attained t).0 in
      let counts = phase_counts m law p there in
      let room = crowd (m.count p) counts (timed_list rows (witness rows t)) found.0 found.1 0 t (omega arith) in
      omega (arith, counts.starts, proved.witness_load rows t ok, (law.attained t).1)

  -- before the least overloaded deadline demand is within supply
  within_before : (t : ℕ) → Overloaded m rows t → (s : ℕ) → s < t → Within m rows s
  within_before t over s l =
      within_to m law rows ok s (λ d h. over.least d (deadlines_only rows s d h) (omega (arith, deadlines_bounded rows s d h))) s (omega arith)

  earlier : (t : ℕ) → Overloaded m rows t → (jobs : List Job) → Legal rows jobs → ((k : ℕ) → k < length jobs → (job (timed_list rows jobs) k).deadline < t) → (p : ℕ) → p < m.phases → MetIn m rows jobs p
  earlier zero over jobs legal before p there = absurd (omega (arith, over.exceeds, demand_none rows ok))
  earlier (suc b) over jobs legal before p there =
      let g = m.count p in
      let tjobs = timed_list rows jobs in
      let law-schedule = existence g tjobs in
      let due_by : DueBy tjobs b = λ k l. let same = length-map jobs (timed rows) in omega (arith, before k (omega arith)) in
      (law-schedule.0, sufficiency g (phase_counts m law p there) tjobs law-schedule.0 b due_by (room_to b (λ s h. within_before (suc b) over s (omega arith)) jobs legal p there) law-schedule.1)

  -- both sentences, for each of the two verdicts
  fits : ((t : ℕ) → Within m rows t) → ExactVerdict m rows None
  fits within = record {
    fits_exactly = (λ _. met_all within, λ _. refl);
    fits_runs = λ _. run_meets within;
    witness_legal = λ t e. absurd (none_is_not_some t e);
    witness_unmet = λ t e. absurd (none_is_not_some t e);
    earlier_met = λ t e. absurd (none_is_not_some t e);
  }

  overloaded : (t : ℕ) → Overloaded m rows t → ExactVerdict m rows (Some t)
  overloaded t over = record {
    fits_exactly = (λ e. absurd (none_is_not_some t (sym e)), λ all. absurd (unmet t over.exceeds (all (witness rows t) (proved.witness_legal rows t ok) (m.worst t) (law.attained t).0)));
    fits_runs = λ e. absurd (none_is_not_some t (sym e));
    witness_legal = λ u e. proved.witness_legal rows u ok;
    witness_unmet = λ u e. subst (λ x. MetIn m rows (witness rows x) (m.worst x) → ⊥) (same_some t u e) (unmet t over.exceeds);
    earlier_met = λ u e. earlier u (subst (λ x. Overloaded m rows x) (same_some t u e) over);
  }

  pub exact_by : (watched : List ℕ) → Exact m rows watched → (verdict : Option ℕ) → Verdict m rows watched verdict → ExactVerdict m rows verdict
  exact_by watched exact None says = fits (exact rows ok refl says)
  exact_by watched exact (Some t) says = overloaded t says.1
