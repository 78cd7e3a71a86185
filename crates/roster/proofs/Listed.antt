-- The test whether a number is in a list.
use Rattle.std.proofs.Common.{◌≡◌, ℕ, zero, suc, ◌<◌, Bool, true, false, eqb, List, [], ◌∷◌, length, get_or, Decides, sym, refl, ◌∙◌, arith}
use Rattle.roster.specs.Certificate.{listed}
use Rattle.std.proofs.ByRecursion.{has_append_right}
use Rattle.std.proofs.lemmas.Bool.{eqb-true, eq-eqb}
use Rattle.std.specs.List.{ContainsAt as Has}

pub listed_has : (d : ℕ) (xs : List ℕ) → listed d xs ≡ true → Has xs d
unfolding listed
listed_has d [] e = absurd (grind arith)
listed_has d (x ∷ xs) e = go (eqb x d) refl (listed_has d xs)
  where
    go : (b : Bool) → eqb x d ≡ b → (listed d xs ≡ true → Has xs d) → Has (x ∷ xs) d
    go true here later = (0, omega arith, λ z. eqb-true x d here)
    go false here later = has_append_right (x ∷ []) xs d (later (grind arith))

has_at : (d : ℕ) (xs : List ℕ) (k : ℕ) → k < length xs → get_or xs k 0 ≡ d → listed d xs ≡ true
unfolding listed
has_at d [] k l at = absurd (omega arith)
has_at d (x ∷ xs) zero l at = let here = eq-eqb x d at in grind arith
has_at d (x ∷ xs) (suc k) l at = let later = has_at d xs k (omega arith) at in grind arith

pub has_listed : (d : ℕ) (xs : List ℕ) → Has xs d → listed d xs ≡ true
has_listed d xs h = has_at d xs h.0 h.1 (h.2 0)

-- what decides whether a list has d is the test
pub decided : (r : Bool) (d : ℕ) (xs : List ℕ) → Decides r (Has xs d) → listed d xs ≡ r
decided true d xs h = has_listed d xs (h.0 refl)
decided false d xs h = go (listed d xs) refl
  where
    go : (b : Bool) → listed d xs ≡ b → listed d xs ≡ false
    go true e = e ∙ sym (h.1 (listed_has d xs e))
    go false e = e
