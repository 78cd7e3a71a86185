-- When the verdict on a sheet is that its lines fit, when it is refused, and that no run on such a sheet misses a deadline:
-- from the one reading of the sheet, the exact verdict and the run's final miss.
use Rattle.std.proofs.Common.{◌≡◌, ℕ, ◌<◌, ◌↔◌, List, [], Some, None, Ok, Err, Option, Result, sym, refl, ap, ◌∙◌, subst, mod-lt, arith}
use Rattle.analysis.specs.Legal.{Legal}
use Rattle.analysis.specs.Verdict.{MetIn}
use Rattle.edf.specs.Run.{met, missed}
use Rattle.embed.specs.Border.{verdict_as, run_as}
use Rattle.embed.specs.Promises as promised
use Rattle.embed.specs.Promises.{VerdictOn, Judges, Admitted, RunsOnSheet, NeverMissed}
use Rattle.grammar.proofs.OneReading.{one_reading}
use Rattle.grammar.specs.Reading.{rows_through, Accepted, Outcome, accepted, refused}
use Rattle.grammar.specs.Records.{Record, calls_of}
use Rattle.grammar.specs.Supplies.{supply_of}
use Rattle.grammar.specs.declared.fields.Fields.{Fields}
use Rattle.lines.specs.declared.row.Row.{Row}
use Rattle.refusal.specs.declared.Refusal.{Refusal}
use Rattle.roster.specs.Working.{rows_in}
use Rattle.roster.specs.declared.roster.Roster.{Roster}
use Rattle.run.specs.Promise.{MissFinal}
use Rattle.run.specs.declared.job.Job.{Job}
use Rattle.run.specs.declared.outcome.Outcome as run
use Rattle.run.specs.declared.outcome.Outcome.TheVariants.{Met, Missed}
use Rattle.sheet.specs.Reading.{Leaves, TurnedDown}
use Rattle.sheet.specs.declared.sheet_refusal.SheetRefusal.{SheetRefusal}
use Rattle.supply.specs.Bottoms.{named_lawful}
use Rattle.supply.specs.Meaning.{Meaning}
use Rattle.supply.specs.Named.{named}
use Rattle.supply.specs.declared.named.Named.{Named}

-- every legal list of some lines is met in each phase of a supply
abbrev MetAlways : Meaning → List Row → Type 0
MetAlways m rows = (jobs : List Job) → Legal rows jobs → (p : ℕ) → p < m.phases → MetIn m rows jobs p

-- the same reading has the same fields and records
same_fields : (f g : Fields) (rs ss : List Record) → ◌≡◌ {A = Outcome} (accepted f rs) (accepted g ss) → (f ≡ g) × (rs ≡ ss)
same_fields f g rs ss e = (cc, cc)

not_both : (f : Fields) (rs : List Record) (why : Refusal) (number byte : ℕ) → ◌≡◌ {A = Outcome} (refused why number byte) (accepted f rs) → ⊥
not_both f rs why number byte e = let z : ◌≡◌ {A = ℕ} 0 1 = cc in omega arith

none_is_not_some : (t : ℕ) → ◌≡◌ {A = Option ℕ} (Some t) None → ⊥
none_is_not_some t e = let z : ◌≡◌ {A = ℕ} 0 1 = cc in omega arith

missed_is_not_met : (k t : ℕ) → missed k t ≡ met → ⊥
missed_is_not_met k t e = let z : ◌≡◌ {A = ℕ} 0 1 = cc in omega arith

module _ (bytes : List ℕ) where
  -- a sheet that is refused is not accepted
  never_accepted : (e : SheetRefusal) → TurnedDown bytes e → (fields : Fields) (records : List Record) → Accepted bytes fields records → ⊥
  never_accepted e turned fields records own =
      not_both fields records e.refusal e.«record» e.byte (one_reading bytes (refused e.refusal e.«record» e.byte) (accepted fields records) turned own)

  -- what is met always of a supply and lines is met always of those that are equal to them
  carried : (m m' : Meaning) (rows rows' : List Row) → m ≡ m' → rows ≡ rows' → MetAlways m rows → MetAlways m' rows'
  carried m m' rows rows' e e' h = subst (λ x. MetAlways x rows') e (subst (λ x. MetAlways m x) e' h)

  admitted : VerdictOn bytes None → Admitted bytes
  admitted v = record {
    fields = v.left_by_the_sheet.fields;
    records = v.left_by_the_sheet.records;
    accepted = v.left_by_the_sheet.accepted;
    met_always = carried _ _ _ _ v.left_by_the_sheet.supply_is_that_named v.left_by_the_sheet.lines_after_its_calls (v.exact_on_its_lines.fits_exactly.0 refl);
  }

  module _ (roster : Roster Named) (leaves : Leaves bytes roster) (a : Admitted bytes) where
    -- an admitted sheet spells what the roster was read from
    spells_same : (leaves.fields ≡ a.fields) × (leaves.records ≡ a.records)
    spells_same = same_fields leaves.fields a.fields leaves.records a.records (one_reading bytes (accepted leaves.fields leaves.records) (accepted a.fields a.records) leaves.accepted a.accepted)

    supply_spelled : supply_of a.fields ≡ named roster.supply
    supply_spelled = sym (leaves.supply_is_that_named ∙ ap supply_of spells_same.0)

    lines_spelled : rows_through [] (calls_of a.records) ≡ rows_in roster
    lines_spelled = sym (leaves.lines_after_its_calls ∙ ap (λ rs. rows_through [] (calls_of rs)) spells_same.1)

    -- so its lines are met always
    left_met : MetAlways (named roster.supply) (rows_in roster)
    left_met = carried _ _ _ _ supply_spelled lines_spelled a.met_always

    left_legal : (jobs : List Job) → Legal (rows_through [] (calls_of a.records)) jobs → Legal (rows_in roster) jobs
    left_legal jobs legal = subst (λ rows. Legal rows jobs) lines_spelled legal

  -- lines that are overloaded are not met always
  not_admitted : (t : ℕ) → VerdictOn bytes (Some t) → Admitted bytes → ⊥
  not_admitted t v a = none_is_not_some t (v.exact_on_its_lines.fits_exactly.1 (left_met v.roster v.left_by_the_sheet a))

  pub fits_exactly : (r : Result (Option ℕ) SheetRefusal) → Judges bytes r → ((verdict_as r).kind ≡ 1) ↔ Admitted bytes
  fits_exactly (Ok None) v = (λ _. admitted v, λ _. refl)
  fits_exactly (Ok (Some t)) v = (λ e. absurd (omega arith), λ a. absurd (not_admitted t v a))
  fits_exactly (Err e) turned = (λ k. absurd (omega arith), λ a. absurd (never_accepted e turned a.fields a.records a.accepted))

  pub refused_exactly : (r : Result (Option ℕ) SheetRefusal) → Judges bytes r → ((verdict_as r).kind ≡ 0) ↔ ((fields : Fields) (records : List Record) → Accepted bytes fields records → ⊥)
  refused_exactly (Ok None) v = (λ e. absurd (omega arith), λ never. absurd (never v.left_by_the_sheet.fields v.left_by_the_sheet.records v.left_by_the_sheet.accepted))
  refused_exactly (Ok (Some t)) v = (λ e. absurd (omega arith), λ never. absurd (never v.left_by_the_sheet.fields v.left_by_the_sheet.records v.left_by_the_sheet.accepted))
  refused_exactly (Err e) turned = (λ _. never_accepted e turned, λ _. refl)

  -- a run of a legal list that misses a deadline would leave no schedule for it, in a phase that has one
  no_miss : (roster : Roster Named) → Leaves bytes roster → (phase : ℕ) (jobs : List Job) (k t : ℕ) → MissFinal (named roster.supply) phase (rows_in roster) jobs (Missed k t) → (a : Admitted bytes) → Legal (rows_through [] (calls_of a.records)) jobs → ⊥
  no_miss roster leaves phase jobs k t final a legal =
      let there = mod-lt phase (named_lawful roster.supply).counts.0 in
      let found = left_met roster leaves a jobs (left_legal roster leaves a jobs legal) _ there in
      final (missed_is_not_met k t) found.0 found.1

  pub never_missed : (phase : ℕ) (jobs : List Job) (before after : List ℕ) (r : Result run.Outcome SheetRefusal) → RunsOnSheet bytes phase jobs before after r → NeverMissed bytes jobs (run_as r)
  never_missed phase jobs before after r (promised.refused e turned same) a legal k = omega arith
  never_missed phase jobs before after r (promised.ran roster (Ok Met) leaves runs) a legal k = omega arith
  never_missed phase jobs before after r (promised.ran roster (Ok (Missed j t)) leaves runs) a legal k = no_miss roster leaves phase jobs j t runs.miss_is_final a legal
  never_missed phase jobs before after r (promised.ran roster (Err e) leaves runs) a legal k = omega arith
