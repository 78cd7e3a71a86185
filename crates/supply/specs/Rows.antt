-- A row that repeats for ever obeys the laws of a supply, and whole turns add the same at every start: from the definitions alone.
-- Lemmas: they stand in specs/ since the laws of an `impl` cite them, and nobody has to believe them.
use Rattle.std.specs.Prelude.{◌≡◌, ℕ, zero, suc, ◌+◌, ◌*◌, ◌/◌, ◌%◌, ◌^◌, ◌<◌, ◌≤◌, Bool, refl}
use Rattle.std.proofs.Common.{⊎_elim, sym, ap, ◌∙◌, add-zero, add-suc, add_assoc, zero-add, add_comm, mod-lt, mod-eq_of_lt, arith}
use Rattle.std.proofs.Math.Nat.{mod-add-mod, add-mod_right, mod-add-div'}
use Rattle.std.proofs.lemmas.Bool.{cases_lt}
use Rattle.supply.specs.Least.{counted_within}
use Rattle.supply.specs.Meaning.{Counting, Lawful}
use Rattle.supply.specs.Row.{Row, upto, from, lowest, repeating, WorstIsFirst}
use Rattle.supply.specs.Timetable.{timetable, bits, LawfulTimetable}

-- the given slots among the first n are counted
pub upto_counting : (given : ℕ → Bool) → Counting (upto given)
unfolding upto
upto_counting given = record { starts = refl; keeps = λ n. grind arith; climbs = λ n. grind arith }

-- the first a + n slots are the first a and the n after them
pub upto_sum : (given : ℕ → Bool) (a n : ℕ) → upto given (a + n) ≡ upto given a + upto (λ s. given (a + s)) n
unfolding upto
upto_sum given a zero = ap (upto given) (add-zero a) ∙ sym (add-zero (upto given a))
upto_sum given a (suc n) = let below = upto_sum given a n in rw add-suc (grind arith)

-- slots that are alike are counted alike
pub upto_alike : (f g : ℕ → Bool) (n : ℕ) → ((s : ℕ) → s < n → f s ≡ g s) → upto f n ≡ upto g n
unfolding upto
upto_alike f g zero alike = refl
upto_alike f g (suc n) alike =
    let below = upto_alike f g n (λ s h. alike s (omega arith)) in
    let last = alike n (omega arith) in
    grind arith

-- the first of the lowest places: it is one of them, no place is lower, and each place before it is higher
pub lowest_there : (f : ℕ → ℕ) (k : ℕ) → 0 < k → lowest f k < k
unfolding lowest
lowest_there f zero some = omega arith
lowest_there f (suc zero) some = grind arith
lowest_there f (suc (suc k)) some = let below = lowest_there f (suc k) (omega arith) in grind arith

pub lowest_least : (f : ℕ → ℕ) (k p : ℕ) → p < k → f (lowest f k) ≤ f p
unfolding lowest
lowest_least f zero p there = omega arith
lowest_least f (suc k) p there =
    let below : p < k → f (lowest f k) ≤ f p = lowest_least f k p in
    ⊎_elim (λ (b : p < k). let h = below b in grind arith) (λ (b : k ≤ p). let e : p ≡ k = omega arith in rw e (grind arith)) (cases_lt p k)

pub lowest_first : (f : ℕ → ℕ) (k p : ℕ) → p < lowest f k → f (lowest f k) < f p
unfolding lowest
lowest_first f zero p before = omega arith
lowest_first f (suc k) p before =
    let below : p < lowest f k → f (lowest f k) < f p = lowest_first f k p in
    let least : p < k → f (lowest f k) ≤ f p = lowest_least f k p in
    grind arith

module _ (r : Row) where
  -- no more slots are given than there are
  pub from_within : (p n : ℕ) → from r p n ≤ n
  from_within p n = counted_within (from r p) (upto_counting _) n

  -- a start is read by its place in the turn
  pub from_mod : (p n : ℕ) → from r (p % r.turn) n ≡ from r p n
  from_mod p n = upto_alike _ _ n (λ s h. ap r.given (mod-add-mod p r.turn s))

  -- n more slots after a slots are n slots from the place that those lead to
  pub from_sum : (p a n : ℕ) → from r p (a + n) ≡ from r p a + from r (p + a) n
  from_sum p a n =
      upto_sum (λ s. r.given ((p + s) % r.turn)) a n
      ∙ ap (λ x. from r p a + x) (upto_alike _ _ n (λ s h. ap (λ x. r.given (x % r.turn)) (sym (add_assoc p a s))))

  -- one turn further on the row is the same
  pub from_turn_on : (p n : ℕ) → from r (p + r.turn) n ≡ from r p n
  from_turn_on p n = sym (from_mod (p + r.turn) n) ∙ ap (λ x. from r x n) (add-mod_right p r.turn) ∙ from_mod p n

  -- a whole turn adds the same at every start
  pub from_turn : (p : ℕ) → from r p r.turn ≡ from r 0 r.turn
  from_turn p =
      let one : from r 0 (r.turn + p) ≡ from r 0 r.turn + from r (0 + r.turn) p = from_sum 0 r.turn p in
      let same : from r (0 + r.turn) p ≡ from r 0 p = from_turn_on 0 p in
      let other : from r 0 (p + r.turn) ≡ from r 0 p + from r (0 + p) r.turn = from_sum 0 p r.turn in
      let start : from r (0 + p) r.turn ≡ from r p r.turn = ap (λ x. from r x r.turn) (zero-add p) in
      let turned : from r 0 (r.turn + p) ≡ from r 0 (p + r.turn) = ap (from r 0) (add_comm r.turn p) in
      omega arith

  -- and so do k whole turns
  pub from_turns : (p n k : ℕ) → from r p (n + k * r.turn) ≡ k * from r 0 r.turn + from r p n
  from_turns p n zero = let none : n + 0 * r.turn ≡ n = omega arith in omega (arith, ap (from r p) none)
  from_turns p n (suc k) =
      let below : from r p (n + k * r.turn) ≡ k * from r 0 r.turn + from r p n = from_turns p n k in
      let more : n + suc k * r.turn ≡ (n + k * r.turn) + r.turn = omega arith in
      omega (arith, ap (from r p) more, from_sum p (n + k * r.turn) r.turn, from_turn (p + (n + k * r.turn)))

  -- within its first turn the row is read as it stands
  pub from_row : (n : ℕ) → n ≤ r.turn → from r 0 n ≡ upto r.given n
  from_row n within =
      upto_alike _ _ n (λ s h. ap r.given (ap (λ x. x % r.turn) (zero-add s) ∙ mod-eq_of_lt {n = s} {m = r.turn} (omega arith)))

  -- whole turns, and the slots left over
  pub from_start : (x : ℕ) → 0 < r.turn → from r 0 x ≡ x / r.turn * upto r.given r.turn + upto r.given (x % r.turn)
  from_start x some =
      let whole : from r 0 r.turn ≡ upto r.given r.turn = from_row r.turn (omega arith) in
      let rest : from r 0 (x % r.turn) ≡ upto r.given (x % r.turn) = from_row (x % r.turn) (omega (arith, mod-lt x some)) in
      let turns : from r 0 (x % r.turn + x / r.turn * r.turn) ≡ x / r.turn * from r 0 r.turn + from r 0 (x % r.turn) = from_turns 0 (x % r.turn) (x / r.turn) in
      let all : from r 0 (x % r.turn + x / r.turn * r.turn) ≡ from r 0 x = ap (from r 0) (mod-add-div' x r.turn) in
      let same : x / r.turn * from r 0 r.turn ≡ x / r.turn * upto r.given r.turn = ap (λ y. x / r.turn * y) whole in
      omega arith

  -- the slots from p on are those before p + n without those before p
  pub from_difference : (p n : ℕ) → from r 0 p + from r p n ≡ from r 0 (p + n)
  from_difference p n = omega (arith, from_sum 0 p n, ap (λ x. from r x n) (zero-add p))

  -- the slots from p on, by those before its two ends; and they are at most n
  pub from_between : (p n more : ℕ) → more ≡ n → (from r 0 p + from r p n ≡ from r 0 (p + more)) × (from r p n ≤ n)
  from_between p n more same = rw same (from_difference p n, from_within p n)

  -- any n slots hold at least as many given ones as the worst phase
  pub from_window : 0 < r.turn → (p a n : ℕ) → from r p a + (repeating r).least n ≤ from r p (a + n)
  from_window some p a n =
      omega (arith, from_sum p a n, from_mod (p + a) n, lowest_least (λ q. from r q n) r.turn ((p + a) % r.turn) (mod-lt (p + a) some))

  pub repeating_lawful : 0 < r.turn → Lawful (repeating r)
  repeating_lawful some =
      record {
        counts = (some, λ p there. upto_counting _);
        windows = λ p a n there. from_window some p a n;
        attained = λ n. (lowest_there (λ p. from r p n) r.turn some, refl);
      }

  pub worst_first : WorstIsFirst r
  worst_first n p = (lowest_least (λ q. from r q n) r.turn p, lowest_first (λ q. from r q n) r.turn p)

-- what a lawful timetable says of its numbers
pub timetable_bounds : (length word : ℕ) → LawfulTimetable length word → (1 ≤ length) × (length ≤ 64) × (0 < word) × (word < 2 ^ length)
timetable_bounds length word lawful = grind arith

pub timetable_laws : (length word : ℕ) → LawfulTimetable length word → Lawful (timetable length word)
timetable_laws length word lawful = repeating_lawful (bits length word) (timetable_bounds length word lawful).0
