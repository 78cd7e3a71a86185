-- What each call on a roster checks and what it leaves. Assumes nothing.
use Rattle.std.specs.Prelude.{◌≡◌, ℕ, List, [], ◌∷◌, ◌++◌, Result}
use Rattle.analysis.specs.History.{Call, enrol, strike, recost, cut, rows_after, watched_after, Reached}
use Rattle.lines.specs.Calls.{add_checks}
use Rattle.lines.specs.Changes.{there_check, recost_checks}
use Rattle.lines.specs.Of as lines
use Rattle.lines.specs.declared.row.Row.{Row}
use Rattle.refusal.specs.Answers.{Check, Answered, left}
use Rattle.refusal.specs.declared.Refusal.{Refusal}
use Rattle.roster.specs.Certificate.{cut_checks}
use Rattle.roster.specs.declared.roster.Roster.{Roster}
use Rattle.supply.specs.Meaning.{Meaning}

-- The rows of a roster's lines, by number.
abbrev pub rows_in : {S : Type 0} → Roster S → List Row
rows_in roster = lines.rows_of roster.lines

-- The deadlines that it watches.
abbrev pub watched_in : {S : Type 0} → Roster S → List ℕ
watched_in roster = lines.watched roster.watched

-- The checks of a call, in their order.
abbrev pub checks : Meaning → List Row → List ℕ → Call → List Check
checks m rows watched (enrol row) = add_checks rows row
checks m rows watched (strike number) = there_check rows number ∷ []
checks m rows watched (recost number cost) = recost_checks rows number cost
checks m rows watched (cut d divisor cites) = cut_checks m rows watched d divisor cites

-- What a call on a roster over m does, and what it answers.
pub record Works {S A : Type 0} (m : Meaning) (before after : Roster S) (call : Call) (r : Result A Refusal) (promised : A → Type 0) : Type 0 where
  -- it is refused exactly by the first of its checks that fails
  pub answered : Answered r (checks m (rows_in before) (watched_in before) call) promised
  -- lines, watch list and supply then are what it makes of them; all stay as they were where it is refused
  pub lines : rows_in after ≡ left r (rows_after (rows_in before) call) (rows_in before)
  pub watched : watched_in after ≡ left r (watched_after (rows_in before) (watched_in before) call) (watched_in before)
  pub supply : after.supply ≡ before.supply
  -- and whatever calls led here, this one is one more
  pub history : (calls : List Call) → Reached m calls (rows_in before) (watched_in before) → Reached m (calls ++ (call ∷ [])) (rows_in after) (watched_in after)
