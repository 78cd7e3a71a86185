-- Rest points, deadlines and counts do not depend on costs.
use Rattle.std.proofs.Common.{◌≡◌, ℕ, zero, suc, ◌*◌, ◌<◌, ◌≤◌, Bool, cond, ◌&&◌, ◌||◌, List, [], ◌∷◌, ◌++◌, map, length, get_or, sym, refl, ap, ◌∙◌, ap₂, ⊎_elim, arith}
use Rattle.lines.specs.Changes.{timing, Alike, recosted, with_cost}
use Rattle.lines.specs.Demand.{AllLawful, no_row, count}
use Rattle.lines.specs.Rest.{first, every, some, divides, resting, due, product, hyperperiod, first_rest, deadlines, full_list}
use Rattle.lines.specs.declared.row.Row.{Row}
use Rattle.std.proofs.lemmas.List.{length-map, get_or-map, get_or-set_same, get_or-set_other, length-set, map-set, set-get_or}
use Rattle.std.proofs.lemmas.Bool.{cases_eq}
use mathlib.Core.Path.{fun_ext}

every_timing : (test : Row → Bool) → ((row : Row) → test (timing row) ≡ test row) → (rows : List Row) → every test (map timing rows) ≡ every test rows
unfolding every
every_timing test same [] = refl
every_timing test same (row ∷ rows) = ap₂ (λ x y. x && y) (same row) (every_timing test same rows)

some_timing : (test : Row → Bool) → ((row : Row) → test (timing row) ≡ test row) → (rows : List Row) → some test (map timing rows) ≡ some test rows
unfolding some
some_timing test same [] = refl
some_timing test same (row ∷ rows) = ap₂ (λ x y. x || y) (same row) (some_timing test same rows)

product_timing : (rows : List Row) → product (map timing rows) ≡ product rows
unfolding product
product_timing [] = refl
product_timing (row ∷ rows) = ap (λ n. row.period * n) (product_timing rows)

hyperperiod_timing : (rows : List Row) → hyperperiod (map timing rows) ≡ hyperperiod rows
hyperperiod_timing rows = ap₂ first (fun_ext (λ m. every_timing (divides m) (λ row. refl) rows)) (product_timing rows)

first_rest_timing : (rows : List Row) → first_rest (map timing rows) ≡ first_rest rows
first_rest_timing rows = ap₂ first (fun_ext (λ t. every_timing (resting t) (λ row. refl) rows)) (hyperperiod_timing rows)

deadlines_timing : (rows : List Row) (n : ℕ) → deadlines (map timing rows) n ≡ deadlines rows n
unfolding deadlines
deadlines_timing rows zero = refl
deadlines_timing rows (suc n) =
    ap₂ (λ b ds. cond b (ds ++ (suc n ∷ [])) ds) (some_timing (due (suc n)) (λ row. refl) rows) (deadlines_timing rows n)

full_list_timing : (rows : List Row) → full_list (map timing rows) ≡ full_list rows
full_list_timing rows = ap (deadlines (map timing rows)) (first_rest_timing rows) ∙ deadlines_timing rows (first_rest rows)

-- lines that differ at most in their costs have one hyperperiod and one full list
pub hyperperiod_alike : (rows others : List Row) → Alike rows others → hyperperiod others ≡ hyperperiod rows
hyperperiod_alike rows others alike = sym (hyperperiod_timing others) ∙ ap hyperperiod (sym alike) ∙ hyperperiod_timing rows

pub full_list_alike : (rows others : List Row) → Alike rows others → full_list others ≡ full_list rows
full_list_alike rows others alike = sym (full_list_timing others) ∙ ap full_list (sym alike) ∙ full_list_timing rows

alike_at : (rows others : List Row) (i : ℕ) → Alike rows others → i < length others → timing (get_or others i no_row) ≡ timing (get_or rows i no_row)
alike_at rows others i alike l =
    let short = ap length alike in
    let one = length-map rows timing in
    let two = length-map others timing in
    sym (get_or-map timing others i no_row no_row l) ∙ ap (λ rs. get_or rs i no_row) (sym alike) ∙ get_or-map timing rows i no_row no_row (omega arith)

pub alike_length : (rows others : List Row) → Alike rows others → length others ≡ length rows
alike_length rows others alike = let short = ap length alike in omega (arith, length-map rows timing, length-map others timing)

-- and the same counts, line by line
pub count_alike : (rows others : List Row) (i : ℕ) → Alike rows others → i < length others → (t : ℕ) → count (get_or others i no_row) t ≡ count (get_or rows i no_row) t
count_alike rows others i alike l t = ap (λ row. count row t) (alike_at rows others i alike l)

-- a new cost leaves the timing
pub alike_recosted : (rows : List Row) (i c : ℕ) → Alike (with_cost rows i c) rows
alike_recosted rows i c =
    map-set timing rows i (recosted (get_or rows i no_row) c) ∙ sym (map-set timing rows i (get_or rows i no_row)) ∙ ap (map timing) (set-get_or rows i no_row)

-- and lawful lines lawful
pub lawful_recosted : (rows : List Row) (i c : ℕ) → i < length rows → 1 ≤ c → c ≤ 1000 → AllLawful rows → AllLawful (with_cost rows i c)
lawful_recosted rows i c there low high ok k l =
    let row = recosted (get_or rows i no_row) c in
    let same = length-set rows i row in
    let old = ok i there in
    ⊎_elim (λ (h : k ≡ i). rw (h, get_or-set_same rows i row no_row there) (old.0, old.1, old.2, low, high)) (λ (h : k ≡ i → ⊥). rw (get_or-set_other rows i k row no_row h) (ok k (omega arith))) (cases_eq k i)
