-- Histories: what the lines and the watch list of a roster are after any calls from its opening. Assumes nothing.
use Rattle.std.specs.Prelude.{◌≡◌, ℕ, ◌≤◌, Bool, true, cond, not, ◌&&◌, List, [], ◌∷◌, ◌++◌, length, is_some, nat_lt}
use Rattle.analysis.specs.Watching.{Cite, Certifies}
use Rattle.lines.specs.Calls.{add_checks, outside}
use Rattle.lines.specs.Changes.{with_cost, without}
use Rattle.lines.specs.Rest.{full_list}
use Rattle.lines.specs.declared.row.Row.{Row}
use Rattle.refusal.specs.Answers.{refusal_of}
use Rattle.std.specs.List.{remove, ContainsAt as Has, AllByRecursion}
use Rattle.supply.specs.Meaning.{Meaning}

-- The four calls that change a roster.
pub data Call : Type 0 where
  enrol : Row → Call
  strike : (number : ℕ) → Call
  recost : (number cost : ℕ) → Call
  cut : (deadline divisor : ℕ) → List Cite → Call

-- A certificate is accepted: its figures are in range, its deadline is watched, and it certifies that this may leave.
pub record Accepted (m : Meaning) (rows : List Row) (watched : List ℕ) (d divisor : ℕ) (cites : List Cite) : Type 0 where
  pub divisor_in_range : (1 ≤ divisor) × (divisor ≤ 1000)
  pub cites_in_range : (1 ≤ length cites) × (length cites ≤ 8)
  pub weights_in_range : AllByRecursion (λ cite. (1 ≤ cite.weight) × (cite.weight ≤ 1000)) cites
  pub is_watched : Has watched d
  pub certifies : Certifies m rows watched d divisor cites

-- What a call does to the lines, where it is not turned down: cut changes none.
abbrev pub rows_after : List Row → Call → List Row
rows_after rows (enrol row) = rows ++ (row ∷ [])
rows_after rows (strike number) = remove rows number
rows_after rows (recost number cost) = with_cost rows number cost
rows_after rows (cut d divisor cites) = rows

-- What it does to the watch list: enrol and strike set the full list, recost leaves it, and cut takes its deadline out.
abbrev pub watched_after : List Row → List ℕ → Call → List ℕ
watched_after rows watched (enrol row) = full_list (rows ++ (row ∷ []))
watched_after rows watched (strike number) = full_list (remove rows number)
watched_after rows watched (recost number cost) = watched
watched_after rows watched (cut d divisor cites) = without d watched

-- A call on the lines is taken by its own figures and the lines alone: a line by the checks of adding one, the others where
-- the line is there, and a cost from 1 to 1,000.
abbrev pub taken : List Row → Call → Bool
taken rows (enrol row) = not (is_some (refusal_of (add_checks rows row)))
taken rows (strike number) = nat_lt number (length rows)
taken rows (recost number cost) = nat_lt number (length rows) && not (outside 1 1000 cost)
taken rows (cut d divisor cites) = true

-- When a call is made and not turned down.
abbrev pub Made : Meaning → List Row → List ℕ → Call → Type 0
Made m rows watched (enrol row) = taken rows (enrol row) ≡ true
Made m rows watched (strike number) = taken rows (strike number) ≡ true
Made m rows watched (recost number cost) = taken rows (recost number cost) ≡ true
Made m rows watched (cut d divisor cites) = Accepted m rows watched d divisor cites

-- The lines and the watch list that a list of calls reaches from an opening, whichever of them were turned down.
pub data Reached (m : Meaning) : List Call → List Row → List ℕ → Type 0 where
  opened : Reached m [] [] []
  made : {calls : List Call} {rows : List Row} {watched : List ℕ} (call : Call) → Reached m calls rows watched → Made m rows watched call → Reached m (calls ++ (call ∷ [])) (rows_after rows call) (watched_after rows watched call)
  refused : {calls : List Call} {rows : List Row} {watched : List ℕ} (call : Call) → Reached m calls rows watched → (Made m rows watched call → ⊥) → Reached m (calls ++ (call ∷ [])) rows watched

-- The lines that follow from the calls' arguments alone: none at first, then what each call does, or nothing where it is turned down.
abbrev pub step : List Row → Call → List Row
step rows call = cond (taken rows call) (rows_after rows call) rows

unfoldable pub follow : List Row → List Call → List Row
follow rows [] = rows
follow rows (call ∷ calls) = follow (step rows call) calls
