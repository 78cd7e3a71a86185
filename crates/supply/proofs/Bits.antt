-- The slots that a number gives, counted by its ones: from the laws of binary digits.
use Rattle.std.proofs.Common.{◌≡◌, ℕ, zero, suc, ◌+◌, ◌-◌, ◌*◌, ◌/◌, ◌%◌, ◌^◌, ◌<◌, ◌≤◌, false, cond, eqb, sym, ap, ◌∙◌, ⊎_elim, mod-lt, mod-eq_of_lt, one-add, arith, lit<, pow_pos}
use lib.Bits.{bit_and, and_mask}
use lib.Count.{ones, ones_cat}
use lib.Pow.{mod-pow-add}
use native.Mathlib.Nat.{mod-one, div-eq_of_lt}
use Rattle.std.proofs.lemmas.Nat.{one_shl}
use Rattle.std.proofs.lemmas.Bool.{eqb-false, cases_lt}
use Rattle.supply.specs.Rows.{from_start, from_within, timetable_bounds}
use Rattle.supply.specs.Row.{upto, from}
use Rattle.supply.specs.Timetable.{bits, LawfulTimetable}

-- a slot adds its bit
bit_adds : (bit u : ℕ) → bit < 2 → cond (eqb bit 1) (suc u) u ≡ ones bit + u
unfolding ones
bit_adds zero u small = omega arith
bit_adds (suc zero) u small = omega arith
bit_adds (suc (suc bit)) u small = absurd (omega arith)

-- the given slots among the first k are the ones of the k lowest bits
pub ones_upto : (length word k : ℕ) → upto (bits length word).given k ≡ ones (word % 2 ^ k)
unfolding upto ones
ones_upto length word zero = sym (ap ones (mod-one word))
ones_upto length word (suc k) =
    let below = ones_upto length word k in
    let bit = word / 2 ^ k % 2 in
    let cut : word % 2 ^ suc k ≡ bit * 2 ^ k + word % 2 ^ k = ap (λ j. word % 2 ^ j) (sym (one-add k)) ∙ mod-pow-add word 1 k in
    let apart : ones (bit * 2 ^ k + word % 2 ^ k) ≡ ones bit + ones (word % 2 ^ k) = ones_cat k bit (word % 2 ^ k) (mod-lt word (pow_pos k)) in
    let added = bit_adds bit (upto (bits length word).given k) (mod-lt (word / 2 ^ k) (lit< tt)) in
    added ∙ ap (λ x. ones bit + x) below ∙ sym apart ∙ sym (ap ones cut)

-- the mask of the k lowest bits takes the remainder by 2 ^ k
pub masked : (word k : ℕ) → k < 64 → bit_and word ((1 * 2 ^ k) % 2 ^ 64 - 1) ≡ word % 2 ^ k
masked word k small = ap (λ x. bit_and word (x - 1)) (one_shl k 64 small) ∙ and_mask word k

-- whole turns by the ones of the word, and the slots left over by the ones of its masked bits; together at most x
pub before_by_ones : (length word x turn : ℕ) → LawfulTimetable length word → turn ≡ length → (x / turn * ones word + ones (bit_and word ((1 * 2 ^ (x % turn)) % 2 ^ 64 - 1)) ≡ from (bits length word) 0 x) × (from (bits length word) 0 x ≤ x)
before_by_ones length word x turn lawful same =
    let bounds = timetable_bounds length word lawful in
    let rest : x % length < length = mod-lt x bounds.0 in
    let left : ones (bit_and word ((1 * 2 ^ (x % length)) % 2 ^ 64 - 1)) ≡ upto (bits length word).given (x % length) = ap ones (masked word (x % length) (omega arith)) ∙ sym (ones_upto length word (x % length)) in
    let whole : ones word ≡ upto (bits length word).given length = ap ones (sym (mod-eq_of_lt bounds.3)) ∙ sym (ones_upto length word length) in
    let turns : x / length * ones word ≡ x / length * upto (bits length word).given length = ap (λ y. x / length * y) whole in
    rw same (omega (arith, from_start (bits length word) x bounds.0), from_within (bits length word) 0 x)

-- a word has a bit from k upward where 2 ^ k goes into it
pub some_above : (word k : ℕ) → eqb (word / 2 ^ k) 0 ≡ false → 2 ^ k ≤ word
some_above word k some =
    ⊎_elim (λ (b : word < 2 ^ k). absurd (eqb-false (word / 2 ^ k) 0 some (div-eq_of_lt b))) (λ (b : 2 ^ k ≤ word). b) (cases_lt word (2 ^ k))
