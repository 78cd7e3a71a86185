-- Verdicts by tests: each watched deadline for lines that fit, each instant before the overload for lines that do not.
use Rattle.std.proofs.Common.{◌≡◌, ℕ, Bool, true, ltb, leb, List, Some, None}
use Rattle.analysis.specs.Verdict.{Verdict}
use Rattle.lines.specs.Demand.{demand}
use Rattle.lines.specs.Rest.{some, due}
use Rattle.lines.specs.declared.row.Row.{Row}
use Rattle.roster.proofs.Listed.{listed_has}
use Rattle.roster.specs.Certificate.{listed}
use Rattle.std.proofs.ByRecursion.{all-has}
use Rattle.std.proofs.lemmas.Bool.{leb-true, ltb-true}
use Rattle.supply.specs.Meaning.{Meaning}
use Rattle.worked.proofs.Trying.{below, below_each, members, members_each}

module _ (m : Meaning) (rows : List Row) (watched : List ℕ) where
  -- demand is within supply
  abbrev pub enough : ℕ → Bool
  enough d = leb (demand rows d) (m.least d)

  pub fits_by : members enough watched ≡ true → Verdict m rows watched None
  fits_by e d h = leb-true (demand rows d) (m.least d) (all-has (λ x. enough x ≡ true) watched d (members_each enough watched e) h)

  -- d is watched and demand exceeds supply there; and t is the first such deadline of all
  pub overloaded_by : (d t : ℕ) → listed d watched ≡ true → ltb (m.least d) (demand rows d) ≡ true → some (due t) rows ≡ true → ltb (m.least t) (demand rows t) ≡ true → below enough t ≡ true → Verdict m rows watched (Some t)
  overloaded_by d t here over is-due over-t before = (
    (d, listed_has d watched here, ltb-true (m.least d) (demand rows d) over),
    record {
      deadline = is-due;
      exceeds = ltb-true (m.least t) (demand rows t) over-t;
      least = λ i i-due l. leb-true (demand rows i) (m.least i) (below_each enough t before i l);
    },
  )
