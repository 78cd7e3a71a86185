use Rattle.std.proofs.Common.{◌≡◌, [], below_more, sym, ◌∙◌, refl, rules}
use Rattle.std.proofs.lemmas.List.{take_more}
use Rattle.lines.specs.Demand.{no_row}
use Rattle.lines.specs.Rest.{deadlines, every, first, full_list, product, some}
use Rattle.commands.proofs.surveying.taken.Goals as goal

-- No lines have no deadlines to watch.
nothing : full_list [] ≡ []
unfolding deadlines every first product some
nothing = refl

pub loop-number-init : goal.loop-number-init
loop-number-init c = let e = nothing in record { lines = search rules; deadlines = cc; taken = search rules }

pub loop-number-preserved : goal.loop-number-preserved
loop-number-preserved c =
    let one_more = take_more c.args.rows.now c.loop-number.number no_row c.loop-number-test.true in
    record {
      lines = c.in-Ok.ensures.added_last_or_refused_by_checks.1.0 ∙ (rw c.loop-number.invariant.lines (sym one_more));
      deadlines = c.in-Ok.ensures.added_last_or_refused_by_checks.1.1;
      taken = below_more _ _ c.loop-number.invariant.taken (rw c.loop-number.invariant.lines at c.in-Ok.ensures.added_last_or_refused_by_checks.0);
    }
