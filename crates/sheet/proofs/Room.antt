-- What there is room for is not refused.
use Rattle.std.proofs.Common.{Ok, Err, Result, MatchResult, IsOk, rules}

pub never_refused : {A E : Type 0} (P : A → Type 0) (Q : E → Type 0) (r : Result A E) → MatchResult r P Q → ((e : E) → Q e → ⊥) → IsOk r
never_refused P Q (Ok x) h never = search rules
never_refused P Q (Err e) h never = absurd (never e h)
