-- The pattern of S in F takes at least `sure` of any x slots, and just so many from slot S mod F on: from the laws of rows.
-- Lemmas: they stand in specs/ since the laws of an `impl` cite them, and nobody has to believe them.
use Rattle.std.specs.Prelude.{◌≡◌, ℕ, zero, suc, ◌+◌, ◌-◌, ◌*◌, ◌/◌, ◌%◌, ◌<◌, ◌≤◌, min}
use Rattle.std.proofs.Common.{ap, ◌∙◌, ⊎_elim, mod-lt, mod-eq_of_lt}
use Rattle.std.proofs.Math.Nat.{mod_self, mod-add-div'}
use native.Mathlib.Omega.{arith}
use Rattle.std.proofs.lemmas.Bool.{cases_lt}
use Rattle.supply.specs.Rows.{from_difference, from_start, from_row, from_turns, repeating_lawful, worst_first}
use Rattle.supply.specs.Row.{upto, from, repeating}
use Rattle.supply.specs.Share.{pattern, sure, LawfulPattern}

module _ (S F : ℕ) where
  -- of the first n slots of a turn the first S are taken
  pub taken_upto : (n : ℕ) → upto (pattern S F).given n ≡ min n S
  unfolding upto
  taken_upto zero = omega arith
  taken_upto (suc n) = let below = taken_upto n in grind arith

-- what a lawful pattern says of its numbers
pub pattern_bounds : (S F : ℕ) → LawfulPattern S F → (1 ≤ S) × (S ≤ F) × (F ≤ 64)
pattern_bounds S F lawful = grind arith

module _ (S F : ℕ) (lawful : LawfulPattern S F) where
  bounds : (1 ≤ S) × (S ≤ F) × (F ≤ 64)
  bounds = pattern_bounds S F lawful

  turn_taken : upto (pattern S F).given F ≡ S
  turn_taken = omega (arith, bounds, taken_upto S F F)

  -- whole turns, and the slots left over
  pub taken_before : (x : ℕ) → from (pattern S F) 0 x ≡ x / F * S + min (x % F) S
  taken_before x = omega (arith, from_start (pattern S F) x (omega (arith, bounds)), taken_upto S F (x % F), ap (λ y. x / F * y) turn_taken)

  -- the same at every start
  turns_taken : (start x : ℕ) → from (pattern S F) start x ≡ x / F * S + from (pattern S F) start (x % F)
  turns_taken start x =
      let turn : from (pattern S F) 0 F ≡ S = from_row (pattern S F) F (omega arith) ∙ turn_taken in
      omega (arith, from_turns (pattern S F) start (x % F) (x / F), ap (from (pattern S F) start) (mod-add-div' x F), ap (λ y. x / F * y) turn)

  -- the first turn and the one after it
  first_turn : (x : ℕ) → x < F → from (pattern S F) 0 x ≡ min x S
  first_turn x within = from_row (pattern S F) x (omega arith) ∙ taken_upto S F x

  second_turn : (x : ℕ) → x < F → from (pattern S F) 0 (x + F) ≡ S + min x S
  second_turn x within =
      let one : x + 1 * F ≡ x + F = omega arith in
      let turn : from (pattern S F) 0 F ≡ S = from_row (pattern S F) F (omega arith) ∙ turn_taken in
      omega (arith, from_turns (pattern S F) 0 x 1, ap (from (pattern S F) 0) one, first_turn x within)

  -- less than a turn from a slot of the first, which ends in the first or in the second
  part_in_first : (start x : ℕ) → start + x < F → from (pattern S F) start x ≡ min (start + x) S - min start S
  part_in_first start x within =
      omega (arith, from_difference (pattern S F) start x, first_turn start (omega arith), first_turn (start + x) within)

  part_in_second : (start x : ℕ) → start < F → x < F → F ≤ start + x → from (pattern S F) start x ≡ S + min (start + x - F) S - min start S
  part_in_second start x there within past =
      let beyond : start + x - F + F ≡ start + x = omega arith in
      omega (arith, from_difference (pattern S F) start x, first_turn start there, second_turn (start + x - F) (omega arith), ap (from (pattern S F) 0) beyond)

  part_taken : (start x : ℕ) → start < F → x < F → x - (F - S) ≤ from (pattern S F) start x
  part_taken start x there within =
      ⊎_elim
      (λ (first : start + x < F). omega (arith, part_in_first start x first))
      (λ (second : F ≤ start + x). omega (arith, part_in_second start x there within second))
      (cases_lt (start + x) F)

  part_worst : (x : ℕ) → x < F → from (pattern S F) (S % F) x ≡ x - (F - S)
  part_worst x within =
      ⊎_elim
      (λ (less : S < F). rw (mod-eq_of_lt less) (⊎_elim (λ (first : S + x < F). omega (arith, part_in_first S x first)) (λ (second : F ≤ S + x). omega (arith, part_in_second S x less within second)) (cases_lt (S + x) F)))
      (λ (all : F ≤ S). let same : S ≡ F = omega (arith, bounds) in let none : S % F ≡ 0 = ap (λ y. y % F) same ∙ mod_self F in rw none (omega (arith, first_turn x within)))
      (cases_lt S F)

  -- the pattern takes at least `sure` of any x slots
  sure_taken : (start x : ℕ) → start < F → sure S F x ≤ from (pattern S F) start x
  sure_taken start x there = omega (arith, turns_taken start x, part_taken start (x % F) there (mod-lt x (omega (arith, bounds))))

  -- and from slot S mod F on no more
  pub sure_attained : (x : ℕ) → from (pattern S F) (S % F) x ≡ sure S F x
  sure_attained x = omega (arith, turns_taken (S % F) x, part_worst (x % F) (mod-lt x (omega (arith, bounds))))

  pub worst_start : S % F < F
  worst_start = mod-lt S (omega (arith, bounds))

  -- so `sure` is the minimum over the starts
  pub sure_fewest : (x : ℕ) → (repeating (pattern S F)).least x ≡ sure S F x
  sure_fewest x =
      let some : 0 < F = omega (arith, bounds) in
      let lowest = ((repeating_lawful (pattern S F) some).attained x).0 in
      omega (arith, sure_taken ((repeating (pattern S F)).worst x) x lowest, (worst_first (pattern S F) x (S % F)).0 worst_start, sure_attained x)
