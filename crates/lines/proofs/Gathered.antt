-- The laws of rest points and of deadlines, gathered for lawful rows.
use Rattle.std.proofs.Common.{ℕ, List}
use Rattle.lines.proofs.Every.{every_at, every_from, some_at, some_place}
use Rattle.lines.proofs.Fewer.{due_positive}
use Rattle.lines.proofs.Hyperperiod
use Rattle.lines.proofs.Listed.{deadlines_rise, deadlines_hold, deadlines_only, deadlines_bounded}
use Rattle.lines.proofs.Rests.{first_rest_positive, first_rest_rests, first_rest_least, first_rest_within}
use Rattle.lines.specs.Demand.{AllLawful}
use Rattle.lines.specs.Laws.{RestLaws, DeadlineLaws}
use Rattle.lines.specs.Rest.{divides, due, hyperperiod}
use Rattle.lines.specs.declared.row.Row.{Row}
use Rattle.std.proofs.lemmas.Bool.{eqb-true, eq-eqb}

pub rest_laws : (rows : List Row) → AllLawful rows → RestLaws rows
rest_laws rows ok = record {
  hyperperiod_positive = Hyperperiod.hyperperiod_positive rows ok;
  hyperperiod_multiple = λ i l. eqb-true _ _ (every_at (divides (hyperperiod rows)) rows (Hyperperiod.hyperperiod_common rows ok) i l);
  hyperperiod_least = λ m one all. Hyperperiod.hyperperiod_least rows ok m one (every_from (divides m) rows (λ i l. eq-eqb _ _ (all i l)));
  rest_positive = first_rest_positive rows;
  rest_rests = first_rest_rests rows ok;
  rest_first = first_rest_least rows;
  rest_within = first_rest_within rows ok;
}

pub deadline_laws : (rows : List Row) (n : ℕ) → AllLawful rows → DeadlineLaws rows n
deadline_laws rows n ok = record {
  rising = (deadlines_rise rows n).0;
  listed = λ t i l is le. let some-due = some_at (due t) rows i l is in deadlines_hold rows n t some-due (due_positive rows t ok some-due) le;
  only = λ t h. (deadlines_bounded rows n t h, some_place (due t) rows (deadlines_only rows n t h));
}
