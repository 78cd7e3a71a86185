-- The least of some numbers is no more than each, and is one of them.
use Rattle.std.proofs.Common.{◌≡◌, ℕ, zero, suc, ◌<◌, ◌≤◌, List, [], ◌∷◌, fold, length, get_or, min, ⊎_elim, refl, arith}
use Rattle.std.proofs.lemmas.Bool.{cases_lt}

below : (x : ℕ) (xs : List ℕ) → (fold min x xs ≤ x) × ((i : ℕ) → i < length xs → fold min x xs ≤ get_or xs i 0)
below x [] = (omega arith, λ i l. absurd (omega arith))
below x (y ∷ ys) =
    let rest = below (min x y) ys in
    (omega (arith, rest.0), elim [ zero ↦ λ l. omega (arith, rest.0) | suc i ↦ λ l. rest.1 i (omega arith) ])

pub least_below : (x : ℕ) (xs : List ℕ) (i : ℕ) → i < length (x ∷ xs) → fold min x xs ≤ get_or (x ∷ xs) i 0
least_below x xs zero l = (below x xs).0
least_below x xs (suc i) l = (below x xs).1 i (omega arith)

placed : (x y m : ℕ) (ys : List ℕ) (i : ℕ) → i < length (min x y ∷ ys) → get_or (min x y ∷ ys) i 0 ≡ m → (j : ℕ) × (j < length (x ∷ y ∷ ys)) × (get_or (x ∷ y ∷ ys) j 0 ≡ m)
placed x y m ys zero l is =
    ⊎_elim (λ (h : x < y). (zero, omega arith, omega arith)) (λ (h : y ≤ x). (suc zero, omega arith, omega arith)) (cases_lt x y)
placed x y m ys (suc i) l is = (suc (suc i), omega arith, is)

pub least_found : (x : ℕ) (xs : List ℕ) → (i : ℕ) × (i < length (x ∷ xs)) × (get_or (x ∷ xs) i 0 ≡ fold min x xs)
least_found x [] = (zero, omega arith, refl)
least_found x (y ∷ ys) =
    let at = least_found (min x y) ys in
    placed x y (fold min (min x y) ys) ys at.0 at.1 at.2
