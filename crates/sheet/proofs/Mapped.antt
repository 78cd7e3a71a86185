-- What is known of a result, from what `map_err` made of it.
use Rattle.std.proofs.Common.{◌≡◌, ℕ, IfOk, Ok, Err, Result, MatchResult, subst, arith}

pub mapped_ok : {A E D : Type 0} (P : Result A E → Type 0) (r : Result A E) (s : Result A D) → MatchResult r (λ x. s ≡ Ok x) (λ _. ⊥) → P r → IfOk s (λ x. P (Ok x))
mapped_ok P (Ok y) (Ok x) e h = let same : y ≡ x = cc in subst (λ z. P (Ok z)) same h
mapped_ok P (Ok y) (Err d) e h = tt
mapped_ok P (Err why) s e h = absurd e

pub mapped_err : {A E D : Type 0} (P : Result A E → Type 0) (Q : E → Type 0) (r : Result A E) (d : D) → MatchResult r (λ x. ◌≡◌ {A = Result A D} (Err d) (Ok x)) Q → P r → (e : E) × P (Err e) × Q e
mapped_err P Q (Ok y) d e h = let z : ◌≡◌ {A = ℕ} 0 1 = cc in absurd (omega arith)
mapped_err P Q (Err why) d q h = (why, h, q)
