use Rattle.std.proofs.Common.{◌≡◌, ℕ, List, length, Some, sym, refl, ap, ◌∙◌, subst, arith}
use Rattle.edf.proofs.Run.{run_exact, run_optimal}
use Rattle.edf.specs.Jobs.{Job as Timed}
use Rattle.edf.specs.Run.{Outcome, met, missed, Runs}
use Rattle.edf.specs.Schedule.{Schedule, Meets}
use Rattle.lines.specs.Of.{rows_of}
use Rattle.lines.specs.declared.table.Lines.{Lines}
use Rattle.refusal.proofs.Checks.{refusal_first}
use Rattle.refusal.specs.declared.Refusal.{Refusal}
use Rattle.refusal.specs.declared.layer.Layer.TheVariants.{Run}
use Rattle.refusal.specs.declared.reason.Reason.TheVariants.{ListTooShort}
use Rattle.run.proofs.Filling.{given_counting}
use Rattle.run.proofs.Passing.{too_short, long_enough}
use Rattle.run.proofs.call.run.Goals as goal
use Rattle.run.specs.Checks.{list_checks}
use Rattle.run.specs.Outcomes.{outcome, ending}
use Rattle.run.specs.Slots.{given_in, schedule, Entries}
use Rattle.run.specs.Timed.{timed_list, horizon}
use Rattle.run.specs.declared.checked.Checked.{Checked}
use Rattle.run.specs.declared.job.Job.{Job}
use Rattle.std.proofs.lemmas.Result.{err_from_is_err_and}
use Rattle.supply.specs.Meaning.{Counting}

-- the refusal of a slot list that is too short
abbrev run_refusal : ℕ → Refusal
run_refusal needed = record { reason = ListTooShort; layer = Run; place = needed }

-- a list that was checked is the one that was passed
module _ (list : Checked) (lines : Lines) (jobs : List Job) (lines-is : list.lines.now ≡ lines) (jobs-is : list.jobs.now ≡ jobs) where
  last_is : list.last_deadline ≡ horizon (rows_of lines) jobs
  last_is =
      list.last ∙ ap (λ ls. horizon (rows_of ls) list.jobs.now) lines-is ∙ ap (horizon (rows_of lines)) jobs-is

  timed_is : timed_list (rows_of list.lines.now) list.jobs.now ≡ timed_list (rows_of lines) jobs
  timed_is =
      ap (λ ls. timed_list (rows_of ls) list.jobs.now) lines-is ∙ ap (timed_list (rows_of lines)) jobs-is

-- where a run does not end with every deadline met, no schedule meets the list
final : (g : ℕ → ℕ) → Counting g → (jobs : List Timed) (b : ℕ) (σ : Schedule) (o : Outcome) → Runs g jobs b σ o → (o ≡ met → ⊥) → (τ : Schedule) → Meets g jobs τ → ⊥
final g counting jobs b σ met runs not = absurd (not refl)
final g counting jobs b σ (missed k d) runs not = run_optimal g counting jobs b σ k d runs

pub returns-in_err-list-clause-refused_by_checks : goal.returns-in_err-list-clause-refused_by_checks
returns-in_err-list-clause-refused_by_checks g c =
    let p = err_from_is_err_and c.from_residual.result c.from_residual.ensures.1 in
    rw (p.1, p.2) (refusal_first (list_checks (rows_of c.args.lines.now) c.args.jobs.now) _ _ c.in_err-list.ensures)

pub returns-then-slots-from-clause-refused_by_checks : goal.returns-then-slots-from-clause-refused_by_checks
returns-then-slots-from-clause-refused_by_checks g c =
    let rows = rows_of c.args.lines.now in
    let jobs = c.args.jobs.now in
    let taken = c.in_ok-list.ensures in
    let last = last_is c.in_ok-list.list c.args.lines.now jobs taken.1.0 taken.1.1 in
    let short = too_short rows jobs (length c.args.slots.now) taken.0 (omega (arith, c.if-slots-from.true, c.from.ensures, last)) in
    let needed : c.from-then-slots-from.result ≡ horizon rows jobs = omega (arith, c.from-then-slots-from.ensures, last) in
    let named = c.refused.ensures ∙ ap run_refusal needed in
    short ∙ ap Some (sym named)

pub returns : goal.returns
returns g c =
    let rows = rows_of c.args.lines.now in
    let jobs = c.args.jobs.now in
    let list = c.in_ok-list.list in
    let meaning = g.S.Supply.meaning c.args.supply.now in
    let given = given_in meaning c.args.phase in
    let slots = c.follow.new.slots in
    let taken = c.in_ok-list.ensures in
    let last = last_is list c.args.lines.now jobs taken.1.0 taken.1.1 in
    let all = timed_is list c.args.lines.now jobs taken.1.0 taken.1.1 in
    let runs = subst (λ b. Runs given (timed_list rows jobs) b (schedule slots) (outcome c.follow.result)) last (subst (λ js. Runs given js list.last_deadline (schedule slots) (outcome c.follow.result)) all c.follow.ensures.runs) in
    record {
      refused_by_checks = (long_enough rows jobs (length c.args.slots.now) taken.0 (omega (arith, c.if-slots-from.false, c.from.ensures, last)), tt);
      refusal_leaves_slots = tt;
      slots_follow_edf = runs;
      entries_well_written = subst (λ b. Entries given slots (ending b c.follow.result)) last c.follow.ensures.entries;
      met_exactly = run_exact given (timed_list rows jobs) (horizon rows jobs) (schedule slots) (outcome c.follow.result) runs;
      miss_is_final = final given (given_counting meaning c.args.phase (g.met.S.Supply.counts c.args.supply.now)) (timed_list rows jobs) (horizon rows jobs) (schedule slots) (outcome c.follow.result) runs;
    }
