-- A sheet that is good up to a record whose call is made is good up to what is behind it.
use Rattle.std.proofs.Common.{◌≡◌, ℕ, List, [], ◌∷◌, ◌++◌, None, sym, refl, ap, ◌∙◌, subst}
use Rattle.analysis.specs.History.{Call, rows_after, watched_after}
use Rattle.grammar.specs.Reading.{rows_through, watched_through, AllMade, GoodTo}
use Rattle.grammar.specs.Records.{Record, call_of, calls_of, spelled, spelled_all, opening}
use Rattle.grammar.specs.Supplies.{supply_of}
use Rattle.grammar.specs.declared.fields.Fields.{Fields}
use Rattle.lines.specs.declared.row.Row.{Row}
use Rattle.refusal.specs.Answers.{refusal_of}
use Rattle.roster.specs.Working.{checks}
use Rattle.std.proofs.lemmas.List.{append_assoc, append-nil, map-append}
use Rattle.supply.specs.Meaning.{Meaning}

pub spelled_push : (records : List Record) (r : Record) (more : List ℕ) → spelled_all (records ++ (r ∷ [])) ++ more ≡ spelled_all records ++ (spelled r ++ more)
unfolding spelled_all
spelled_push [] r more = ap (λ t. t ++ more) (append-nil (spelled r))
spelled_push (x ∷ records) r more =
    append_assoc (spelled x) (spelled_all (records ++ (r ∷ []))) more ∙ ap (λ t. spelled x ++ t) (spelled_push records r more) ∙ sym (append_assoc (spelled x) (spelled_all records) (spelled r ++ more))

pub rows_push : (rows : List Row) (calls : List Call) (call : Call) → rows_through rows (calls ++ (call ∷ [])) ≡ rows_after (rows_through rows calls) call
unfolding rows_through
rows_push rows [] call = refl
rows_push rows (x ∷ calls) call = rows_push (rows_after rows x) calls call

pub watched_push : (rows : List Row) (watched : List ℕ) (calls : List Call) (call : Call) → watched_through rows watched (calls ++ (call ∷ [])) ≡ watched_after (rows_through rows calls) (watched_through rows watched calls) call
unfolding rows_through watched_through
watched_push rows watched [] call = refl
watched_push rows watched (x ∷ calls) call = watched_push (rows_after rows x) (watched_after rows watched x) calls call

made_push : (m : Meaning) (rows : List Row) (watched : List ℕ) (calls : List Call) (call : Call) → AllMade m rows watched calls → refusal_of (checks m (rows_through rows calls) (watched_through rows watched calls) call) ≡ None → AllMade m rows watched (calls ++ (call ∷ []))
unfolding rows_through watched_through AllMade
made_push m rows watched [] call all passes = (passes, tt)
made_push m rows watched (x ∷ calls) call all passes =
    (all.0, made_push m (rows_after rows x) (watched_after rows watched x) calls call all.1 passes)

pub calls_push : (records : List Record) (r : Record) → calls_of (records ++ (r ∷ [])) ≡ calls_of records ++ (call_of r ∷ [])
calls_push records r = map-append call_of records (r ∷ [])

pub good_push : (bytes : List ℕ) (fields : Fields) (records : List Record) (rest more : List ℕ) (r : Record) → GoodTo bytes fields records rest → rest ≡ spelled r ++ more → refusal_of (checks (supply_of fields) (rows_through [] (calls_of records)) (watched_through [] [] (calls_of records)) (call_of r)) ≡ None → GoodTo bytes fields (records ++ (r ∷ [])) more
good_push bytes fields records rest more r good rest_is passes = record {
  bytes_are = good.bytes_are ∙ ap (λ t. opening fields ++ (spelled_all records ++ t)) rest_is ∙ ap (λ t. opening fields ++ t) (sym (spelled_push records r more));
  supply_named = good.supply_named;
  calls_made = subst (λ calls. AllMade (supply_of fields) [] [] calls) (sym (calls_push records r)) (made_push (supply_of fields) [] [] (calls_of records) (call_of r) good.calls_made passes);
}
