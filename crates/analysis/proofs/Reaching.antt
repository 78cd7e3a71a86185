-- After any calls the lines are lawful and follow from the calls' arguments, and the watch list is exact.
use Rattle.std.proofs.Common.{◌≡◌, ℕ, Bool, true, false, List, [], ◌∷◌, ◌++◌, sym, refl, ap, ◌∙◌, arith}
use Rattle.analysis.proofs.Certificates.{cut_exact}
use Rattle.analysis.proofs.Exactness.{exact_by}
use Rattle.analysis.proofs.Watching.{full_list_exact}
use Rattle.analysis.specs.History.{Call, enrol, strike, recost, cut, rows_after, watched_after, taken, Made, Reached, opened, made, refused, step, follow}
use Rattle.analysis.specs.Theorems.{ReachedExact, LinesFollow, VerdictExact}
use Rattle.analysis.specs.Watching.{Exact}
use Rattle.lines.proofs.Costs.{alike_recosted, lawful_recosted}
use Rattle.lines.proofs.Lawful.{lawful_push}
use Rattle.lines.proofs.Removing.{lawful_removed}
use Rattle.lines.specs.Demand.{AllLawful, no_row}
use Rattle.lines.specs.Demand as lines
use Rattle.lines.specs.Rest.{first, every, some, product, deadlines}
use Rattle.lines.specs.declared.row.Row.{Row}
use Rattle.std.specs.List.{remove}
use Rattle.supply.specs.Meaning.{Meaning, Lawful}

not_true_false : (b : Bool) → (b ≡ true → ⊥) → b ≡ false
not_true_false true h = absurd (h refl)
not_true_false false h = refl

-- a line that is taken is lawful
taken_lawful : (rows : List Row) (row : Row) → taken rows (enrol row) ≡ true → lines.Lawful row
taken_lawful rows row e = grind arith

module _ (m : Meaning) (law : Lawful m) where
  -- each call that is made keeps the lines lawful and the watch list exact
  step_exact : (rows : List Row) (watched : List ℕ) (call : Call) → Made m rows watched call → Exact m rows watched × AllLawful rows → Exact m (rows_after rows call) (watched_after rows watched call) × AllLawful (rows_after rows call)
  step_exact rows watched (enrol row) h (exact, ok) = (full_list_exact m law (rows ++ (row ∷ [])), lawful_push rows row ok (taken_lawful rows row h))
  step_exact rows watched (strike i) h (exact, ok) = (full_list_exact m law (remove rows i), lawful_removed rows i (grind arith) ok)
  step_exact rows watched (recost i c) h (exact, ok) =
      (λ others lawful alike. exact others lawful (sym (alike_recosted rows i c) ∙ alike), lawful_recosted rows i c (grind arith) (grind arith) (grind arith) ok)
  step_exact rows watched (cut d q cites) h (exact, ok) = (cut_exact m rows watched d q cites h.certifies exact, ok)

  reached : {calls : List Call} {rows : List Row} {watched : List ℕ} → Reached m calls rows watched → Exact m rows watched × AllLawful rows
  unfolding first every some product deadlines
  reached opened = (full_list_exact m law [], λ i l. absurd (omega arith))
  reached (made {rows = rows} {watched = watched} call before h) = step_exact rows watched call h (reached before)
  reached (refused call before h) = reached before

pub reached_exact : ReachedExact
reached_exact m law calls rows watched h = reached m law h

pub verdict_exact : VerdictExact
verdict_exact m law calls rows watched h verdict says = let known = reached m law h in exact_by m law rows known.1 watched known.0 verdict says

-- one call more at the end
follow_more : (rows : List Row) (calls : List Call) (call : Call) → follow rows (calls ++ (call ∷ [])) ≡ step (follow rows calls) call
unfolding follow
follow_more rows [] call = refl
follow_more rows (c ∷ calls) call = follow_more (step rows c) calls call

made_step : (m : Meaning) (rows : List Row) (watched : List ℕ) (call : Call) → Made m rows watched call → step rows call ≡ rows_after rows call
made_step m rows watched (enrol row) h = rw h refl
made_step m rows watched (strike i) h = rw h refl
made_step m rows watched (recost i c) h = rw h refl
made_step m rows watched (cut d q cites) h = refl

not_made_step : (m : Meaning) (rows : List Row) (watched : List ℕ) (call : Call) → (Made m rows watched call → ⊥) → step rows call ≡ rows
not_made_step m rows watched (enrol row) h = let off : taken rows (enrol row) ≡ false = not_true_false _ h in rw off refl
not_made_step m rows watched (strike i) h = let off : taken rows (strike i) ≡ false = not_true_false _ h in rw off refl
not_made_step m rows watched (recost i c) h = let off : taken rows (recost i c) ≡ false = not_true_false _ h in rw off refl
not_made_step m rows watched (cut d q cites) h = refl

lines_of : (m : Meaning) {calls : List Call} {rows : List Row} {watched : List ℕ} → Reached m calls rows watched → rows ≡ follow [] calls
unfolding follow
lines_of m opened = refl
lines_of m (made {calls = calls} {rows = rows} {watched = watched} call before h) =
    sym (follow_more [] calls call ∙ ap (λ rs. step rs call) (sym (lines_of m before)) ∙ made_step m rows watched call h)
lines_of m (refused {calls = calls} {rows = rows} {watched = watched} call before h) =
    sym (follow_more [] calls call ∙ ap (λ rs. step rs call) (sym (lines_of m before)) ∙ not_made_step m rows watched call h)

pub lines_follow : LinesFollow
lines_follow m calls rows watched h = lines_of m h
