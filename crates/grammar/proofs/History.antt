-- The records of an accepted sheet are a history of calls.
use Rattle.std.proofs.Common.{ℕ, List, [], ◌∷◌, ◌++◌, sym, subst, append_assoc, append-nil}
use Rattle.analysis.specs.History.{Call, rows_after, watched_after, Reached, opened, made}
use Rattle.grammar.specs.Reading.{rows_through, watched_through, AllMade}
use Rattle.grammar.specs.Records.{calls_of}
use Rattle.grammar.specs.Supplies.{supply_of}
use Rattle.grammar.specs.Theorems.{AcceptedHistory}
use Rattle.lines.specs.declared.row.Row.{Row}
use Rattle.roster.proofs.Passing.{passes_made}
use Rattle.supply.specs.Meaning.{Meaning}

-- calls that are all made go on from what others reached
pub reached_through : (m : Meaning) (before calls : List Call) (rows : List Row) (watched : List ℕ) → Reached m before rows watched → AllMade m rows watched calls → Reached m (before ++ calls) (rows_through rows calls) (watched_through rows watched calls)
unfolding rows_through watched_through AllMade
reached_through m before [] rows watched h all = subst (λ cs. Reached m cs rows watched) (sym (append-nil before)) h
reached_through m before (call ∷ calls) rows watched h all =
    subst (λ cs. Reached m cs (rows_through (rows_after rows call) calls) (watched_through (rows_after rows call) (watched_after rows watched call) calls)) (append_assoc before (call ∷ []) calls)
    (reached_through m (before ++ (call ∷ [])) calls (rows_after rows call) (watched_after rows watched call) (made call h (passes_made m rows watched call all.0)) all.1)

pub accepted_history : AcceptedHistory
accepted_history bytes fields records h = reached_through (supply_of fields) [] (calls_of records) [] [] opened h.good.calls_made
