-- Tests of every number below a bound, and of every member of a list: what they give where they pass.
use Rattle.std.proofs.Common.{◌≡◌, ℕ, zero, suc, ◌<◌, Bool, true, not, ◌&&◌, ◌||◌, List, [], ◌∷◌, sym, subst, ⊎_elim, arith}
use Rattle.std.proofs.lemmas.Bool.{and_parts, cases_eq}
use Rattle.std.specs.List.{AllByRecursion}

-- a test behind one that passes
pub where_passed : (p b : Bool) → p ≡ true → (not p || b) ≡ true → b ≡ true
where_passed p b is either = grind arith

-- every number below n passes
unfoldable pub below : (ℕ → Bool) → ℕ → Bool
below test zero = true
below test (suc n) = test n && below test n

pub below_each : (test : ℕ → Bool) (n : ℕ) → below test n ≡ true → (k : ℕ) → k < n → test k ≡ true
unfolding below
below_each test zero e k l = absurd (omega arith)
below_each test (suc n) e k l =
    let parts = and_parts (test n) (below test n) e in
    ⊎_elim (λ (same : k ≡ n). subst (λ (i : ℕ). test i ≡ true) (sym same) parts.0) (λ (other : k ≡ n → ⊥). below_each test n parts.1 k (omega arith)) (cases_eq k n)

-- every member passes
unfoldable pub members : (ℕ → Bool) → List ℕ → Bool
members test [] = true
members test (x ∷ xs) = test x && members test xs

pub members_each : (test : ℕ → Bool) (xs : List ℕ) → members test xs ≡ true → AllByRecursion (λ x. test x ≡ true) xs
unfolding members
members_each test [] e = tt
members_each test (x ∷ xs) e = let parts = and_parts (test x) (members test xs) e in (parts.0, members_each test xs parts.1)
