-- The first of the lowest places, found by one fold over the places: from its definition alone.
use Rattle.std.proofs.Common.{◌≡◌, ℕ, zero, suc, ◌+◌, ◌-◌, ◌<◌, cond, nat_lt, map, fold, refl, ap, ◌∙◌, add-one, add-zero, arith}
use Rattle.std.specs.List.{range_with_len}
use Rattle.supply.specs.Row.{lowest}

-- of the lowest place so far and the next place, each behind its value, the one to go on with
abbrev pub lower : ℕ × ℕ → ℕ × ℕ → ℕ × ℕ
lower best next = cond (nat_lt next.0 best.0) next best

-- the first of the lowest places below k, behind its value
abbrev pub lowest_pair : (ℕ → ℕ) → ℕ → ℕ × ℕ
lowest_pair f k = (f (lowest f k), lowest f k)

lower_once : (f : ℕ → ℕ) (k : ℕ) → lower (lowest_pair f k) (f k, k) ≡ lowest_pair f (k + 1)
unfolding lowest
lower_once f k = rw add-one (grind arith)

fold_lowest : (f : ℕ → ℕ) (k j : ℕ) → fold lower (lowest_pair f k) (map (λ p. (f p, p)) (range_with_len k j)) ≡ lowest_pair f (k + j)
fold_lowest f k zero = rw add-zero refl
fold_lowest f k (suc j) =
    let place : k + 1 + j ≡ k + suc j = omega arith in
    ap (λ best. fold lower best (map (λ p. (f p, p)) (range_with_len (k + 1) j))) (lower_once f k) ∙ fold_lowest f (k + 1) j ∙ ap (lowest_pair f) place

lowest_one : (f : ℕ → ℕ) → lowest f 1 ≡ 0
unfolding lowest
lowest_one f = grind arith

-- begun at place 0, the fold over the n - 1 others gives the first of the lowest below n
pub fold_from_first : (f : ℕ → ℕ) (v n : ℕ) → v ≡ f 0 → 0 < n → fold lower (v, 0) (map (λ p. (f p, p)) (range_with_len 1 (n - 1))) ≡ lowest_pair f n
fold_from_first f v n first some =
    let start : (v, 0) ≡ lowest_pair f 1 = rw (lowest_one f, first) refl in
    let all : 1 + (n - 1) ≡ n = omega arith in
    ap (λ best. fold lower best (map (λ p. (f p, p)) (range_with_len 1 (n - 1)))) start ∙ fold_lowest f 1 (n - 1) ∙ ap (lowest_pair f) all
