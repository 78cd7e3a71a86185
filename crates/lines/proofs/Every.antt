-- What holds of every line, by the places of the list, and what holds of some line.
use Rattle.std.proofs.Common.{◌≡◌, ℕ, zero, suc, ◌<◌, Bool, true, false, ◌&&◌, List, [], ◌∷◌, ◌++◌, length, get_or, refl, arith}
use Rattle.lines.specs.Demand.{no_row}
use Rattle.lines.specs.Rest.{every, some}
use Rattle.lines.specs.declared.row.Row.{Row}
use Rattle.std.proofs.lemmas.Bool.{and_parts, and_from}

pub every_at : (test : Row → Bool) (rows : List Row) → every test rows ≡ true → (i : ℕ) → i < length rows → test (get_or rows i no_row) ≡ true
unfolding every
every_at test [] all i l = absurd (omega arith)
every_at test (row ∷ rows) all zero l = (and_parts (test row) (every test rows) all).0
every_at test (row ∷ rows) all (suc i) l = every_at test rows (and_parts (test row) (every test rows) all).1 i (omega arith)

pub every_from : (test : Row → Bool) (rows : List Row) → ((i : ℕ) → i < length rows → test (get_or rows i no_row) ≡ true) → every test rows ≡ true
unfolding every
every_from test [] at = refl
every_from test (row ∷ rows) at = and_from (test row) (every test rows) (at 0 (omega arith)) (every_from test rows (λ i l. at (suc i) (omega arith)))

-- one test gives another, line by line
pub every_weaker : (p q : Row → Bool) (rows : List Row) → ((i : ℕ) → i < length rows → p (get_or rows i no_row) ≡ true → q (get_or rows i no_row) ≡ true) → every p rows ≡ true → every q rows ≡ true
every_weaker p q rows gives all = every_from q rows (λ i l. gives i l (every_at p rows all i l))

pub every_push : (test : Row → Bool) (rows : List Row) (row : Row) → every test (rows ++ (row ∷ [])) ≡ (every test rows && test row)
unfolding every
every_push test [] row = grind arith
every_push test (r ∷ rows) row = let ih = every_push test rows row in grind arith

-- one line that fails makes the whole fail
pub every_fails : (test : Row → Bool) (rows : List Row) (i : ℕ) → i < length rows → test (get_or rows i no_row) ≡ false → every test rows ≡ false
unfolding every
every_fails test [] i l e = absurd (omega arith)
every_fails test (row ∷ rows) zero l e = grind arith
every_fails test (row ∷ rows) (suc i) l e = let ih = every_fails test rows i (omega arith) e in grind arith

-- some line passes, by its place; none does
pub some_at : (test : Row → Bool) (rows : List Row) (i : ℕ) → i < length rows → test (get_or rows i no_row) ≡ true → some test rows ≡ true
unfolding some
some_at test [] i l e = absurd (omega arith)
some_at test (row ∷ rows) zero l e = grind arith
some_at test (row ∷ rows) (suc i) l e = let ih = some_at test rows i (omega arith) e in grind arith

pub some_none : (test : Row → Bool) (rows : List Row) → ((i : ℕ) → i < length rows → test (get_or rows i no_row) ≡ false) → some test rows ≡ false
unfolding some
some_none test [] none = refl
some_none test (row ∷ rows) none = let here = none 0 (omega arith) in let ih = some_none test rows (λ i l. none (suc i) (omega arith)) in grind arith

-- the place of a line that passes
some_here : (test : Row → Bool) (row : Row) (rows : List Row) (b : Bool) → test row ≡ b → (some test rows ≡ true → (i : ℕ) × (i < length rows) × (test (get_or rows i no_row) ≡ true)) → some test (row ∷ rows) ≡ true → (i : ℕ) × (i < suc (length rows)) × (test (get_or (row ∷ rows) i no_row) ≡ true)
unfolding some
some_here test row rows true h later e = (0, omega arith, h)
some_here test row rows false h later e = let there = later (grind arith) in (suc there.0, omega (arith, there.1), there.2)

pub some_place : (test : Row → Bool) (rows : List Row) → some test rows ≡ true → (i : ℕ) × (i < length rows) × (test (get_or rows i no_row) ≡ true)
unfolding some
some_place test [] e = absurd (grind arith)
some_place test (row ∷ rows) e = some_here test row rows (test row) refl (some_place test rows) e
