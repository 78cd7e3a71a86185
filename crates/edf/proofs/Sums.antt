-- Sums over the places below a number: how they compare, add, and change where one term does.
use Rattle.std.proofs.Common.{◌≡◌, ℕ, zero, suc, ◌+◌, ◌<◌, ◌≤◌, List, [], ◌∷◌, length, get_or, sum_by, refl, ap, ⊎_elim, arith}
use Rattle.std.proofs.lemmas.List.Sums.{sum_by-cons}
use Rattle.std.proofs.lemmas.Bool.{cases_eq}

-- f 0 + f 1 + .. + f (n - 1)
unfoldable pub sum : (ℕ → ℕ) → ℕ → ℕ
sum f zero = 0
sum f (suc n) = sum f n + f n

pub sum_le : (f h : ℕ → ℕ) (n : ℕ) → ((k : ℕ) → k < n → f k ≤ h k) → sum f n ≤ sum h n
unfolding sum
sum_le f h zero le = omega arith
sum_le f h (suc n) le =
    let below : sum f n ≤ sum h n = sum_le f h n (λ k l. le k (omega arith)) in
    let here : f n ≤ h n = le n (omega arith) in
    omega arith

pub sum_same : (f h : ℕ → ℕ) (n : ℕ) → ((k : ℕ) → k < n → f k ≡ h k) → sum f n ≡ sum h n
unfolding sum
sum_same f h zero eq = refl
sum_same f h (suc n) eq =
    let below : sum f n ≡ sum h n = sum_same f h n (λ k l. eq k (omega arith)) in
    let here : f n ≡ h n = eq n (omega arith) in
    omega arith

pub sum_none : (f : ℕ → ℕ) (n : ℕ) → ((k : ℕ) → k < n → f k ≡ 0) → sum f n ≡ 0
unfolding sum
sum_none f zero eq = refl
sum_none f (suc n) eq =
    let below : sum f n ≡ 0 = sum_none f n (λ k l. eq k (omega arith)) in
    let here : f n ≡ 0 = eq n (omega arith) in
    omega arith

pub sum_add : (f h : ℕ → ℕ) (n : ℕ) → sum (λ k. f k + h k) n ≡ sum f n + sum h n
unfolding sum
sum_add f h zero = refl
sum_add f h (suc n) =
    let below : sum (λ k. f k + h k) n ≡ sum f n + sum h n = sum_add f h n in
    omega arith

-- a sum is less where no term is more and one is less
pub sum_lt : (f h : ℕ → ℕ) (n : ℕ) → ((k : ℕ) → k < n → f k ≤ h k) → (k : ℕ) → k < n → f k < h k → sum f n < sum h n
unfolding sum
sum_lt f h zero le k there less = omega arith
sum_lt f h (suc n) le k there less =
    let under : (i : ℕ) → i < n → f i ≤ h i = λ i l. le i (omega arith) in
    let here : f n ≤ h n = le n (omega arith) in
    ⊎_elim (λ (e : k ≡ n). let below = sum_le f h n under in omega (arith, ap f e, ap h e))
    (λ (e : k ≡ n → ⊥). let below = sum_lt f h n under k (omega arith) less in omega arith)
    (cases_eq k n)

-- a sum rises by one where one term does and the others stay
pub sum_raised : (f h : ℕ → ℕ) (n k : ℕ) → k < n → h k ≡ suc (f k) → ((i : ℕ) → (k ≡ i → ⊥) → h i ≡ f i) → sum h n ≡ suc (sum f n)
unfolding sum
sum_raised f h zero k there one others = omega arith
sum_raised f h (suc n) k there one others =
    ⊎_elim
    (λ (e : k ≡ n). let below = sum_same h f n (λ i l. others i (omega arith)) in omega (arith, ap f e, ap h e))
    (λ (e : k ≡ n → ⊥). let below = sum_raised f h n k (omega arith) one others in omega (arith, others n e))
    (cases_eq k n)

-- the first term apart
pub sum_first : (f : ℕ → ℕ) (n : ℕ) → sum f (suc n) ≡ f 0 + sum (λ k. f (suc k)) n
unfolding sum
sum_first f zero = omega arith
sum_first f (suc n) = let below : sum f (suc n) ≡ f 0 + sum (λ k. f (suc k)) n = sum_first f n in omega arith

-- the sum of a list is the sum over its places
pub sum_places : {X : Type 0} (f : X → ℕ) (xs : List X) (d : X) → sum_by f xs ≡ sum (λ k. f (get_or xs k d)) (length xs)
unfolding sum
sum_places f [] d = refl
sum_places f (x ∷ xs) d =
    let rest : sum_by f xs ≡ sum (λ k. f (get_or xs k d)) (length xs) = sum_places f xs d in
    let apart = sum_first (λ k. f (get_or (x ∷ xs) k d)) (length xs) in
    omega (arith, sum_by-cons f x xs)
