-- One call more in a list of calls that are made.
use Rattle.std.proofs.Common.{◌≡◌, ℕ, ◌+◌, ◌<◌, List, [], ◌∷◌, ◌++◌, map, length, get_or, take, Result, sym, ap, ◌∙◌, subst}
use Rattle.analysis.specs.History as history
use Rattle.roster.specs.Working.{rows_in, watched_in, Works}
use Rattle.roster.specs.declared.roster.Roster.{Roster}
use Rattle.refusal.specs.declared.Refusal.{Refusal}
use Rattle.std.proofs.lemmas.List.{take_more, map-append}
use Rattle.supply.specs.Meaning.{Meaning}

pub calls_more : {X : Type 0} (f : X → history.Call) (xs : List X) (i : ℕ) (d : X) → i < length xs → map f (take i xs) ++ (f (get_or xs i d) ∷ []) ≡ map f (take (i + 1) xs)
calls_more f xs i d l = sym (ap (map f) (take_more xs i d l) ∙ map-append f (take i xs) (get_or xs i d ∷ []))

-- a roster that calls have reached, over the supply s, goes on with one more
pub reached_more : {S A : Type 0} (meaning : S → Meaning) (s : S) (before after : Roster S) (calls : List history.Call) (call : history.Call) (r : Result A Refusal) (promised : A → Type 0) → Works (meaning before.supply) before after call r promised → (before.supply ≡ s) × history.Reached (meaning s) calls (rows_in before) (watched_in before) → (after.supply ≡ s) × history.Reached (meaning s) (calls ++ (call ∷ [])) (rows_in after) (watched_in after)
reached_more meaning s before after calls call r promised works (same, reached) =
    (works.supply ∙ same, subst (λ x. history.Reached (meaning x) (calls ++ (call ∷ [])) (rows_in after) (watched_in after)) same (works.history calls (subst (λ x. history.Reached (meaning x) calls (rows_in before) (watched_in before)) (sym same) reached)))
