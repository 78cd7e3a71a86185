-- The cites that bytes spell: how many, and the first of them.
use Rattle.std.proofs.Common.{◌≡◌, ℕ, zero, suc, ◌+◌, ◌*◌, ◌/◌, ◌%◌, ◌<◌, ◌≤◌, ◌⊎◌, true, false, eqb, List, [], ◌∷◌, map, length, get_or, drop, sym, refl, ap, ◌∙◌, ⊎_elim, arith}
use Rattle.lines.specs.Calls.{outside}
use Rattle.roster.specs.Certificate.{cite_at, cites_of, Whole}
use Rattle.std.proofs.lemmas.List.FromFn.{length-map-range_with_len}
use Rattle.std.proofs.lemmas.List.{get_or-drop, length-drop}
use Rattle.std.proofs.lemmas.Bool.{cond-true, cond-false, eq-eqb, cases_eq}
use Rattle.std.specs.List.{range_with_len}

module _ (bytes : List ℕ) (whole : length bytes % 4 ≡ 0) where
  pub spelled : cites_of bytes ≡ map (cite_at bytes) (range_with_len 0 (length bytes / 4))
  spelled = cond-true (eqb (length bytes % 4) 0) _ _ (eq-eqb _ _ whole)

  pub spelled_length : length (cites_of bytes) ≡ length bytes / 4
  spelled_length = ap length spelled ∙ length-map-range_with_len (cite_at bytes) 0 (length bytes / 4)

-- bytes that are not whole cites spell none
pub ragged : (bytes : List ℕ) → (length bytes % 4 ≡ 0 → ⊥) → cites_of bytes ≡ []
ragged bytes off = let e : eqb (length bytes % 4) 0 ≡ false = grind arith in cond-false (eqb (length bytes % 4) 0) _ _ e

-- the cites behind the first are those of the bytes behind it
behind : (bytes : List ℕ) (k n : ℕ) → map (cite_at bytes) (range_with_len (k + 1) n) ≡ map (cite_at (drop 4 bytes)) (range_with_len k n)
behind bytes k zero = refl
behind bytes k (suc n) =
    let later = behind bytes (k + 1) n in
    let at : (i j : ℕ) → i ≡ 4 + j → get_or bytes i 0 ≡ get_or (drop 4 bytes) j 0 = λ i j e. ap (λ p. get_or bytes p 0) e ∙ sym (get_or-drop 4 bytes j 0) in
    let a = at (4 * (k + 1)) (4 * k) (omega arith) in
    let b = at (4 * (k + 1) + 1) (4 * k + 1) (omega arith) in
    let c = at (4 * (k + 1) + 2) (4 * k + 2) (omega arith) in
    let d = at (4 * (k + 1) + 3) (4 * k + 3) (omega arith) in
    cc

-- the first of some cites
pub cites_first : (bytes : List ℕ) → length bytes % 4 ≡ 0 → 4 ≤ length bytes → cites_of bytes ≡ cite_at bytes 0 ∷ cites_of (drop 4 bytes)
cites_first bytes whole long =
    let rest = drop 4 bytes in
    let shorter : length bytes ≡ 4 + length rest = omega (arith, length-drop 4 bytes) in
    let fewer : length bytes / 4 ≡ suc (length rest / 4) = omega arith in
    let whole_rest : length rest % 4 ≡ 0 = omega arith in
    spelled bytes whole ∙ ap (λ n. map (cite_at bytes) (range_with_len 0 n)) fewer ∙ ap (λ cs. cite_at bytes 0 ∷ cs) (behind bytes 0 (length rest / 4) ∙ sym (spelled rest whole_rest))

-- bytes that are not made of whole cites, or of none or more than 8, spell a number of them that is out of range
pub not_few : (bytes : List ℕ) → (length bytes % 4 ≡ 0 → ⊥) ⊎ (((length bytes % 4 ≡ 0) × (length bytes < 4)) ⊎ ((length bytes % 4 ≡ 0) × (4 ≤ length bytes) × (32 < length bytes))) → outside 1 8 (length (cites_of bytes)) ≡ true
not_few bytes off =
    ⊎_elim (λ (whole : length bytes % 4 ≡ 0). let number = spelled_length bytes whole in grind arith) (λ (ragged_bytes : length bytes % 4 ≡ 0 → ⊥). let none = ap length (ragged bytes ragged_bytes) in grind arith) (cases_eq (length bytes % 4) 0)

-- bytes of whole cites spell at most 8
pub few_cites : (bytes : List ℕ) → Whole bytes → length (cites_of bytes) ≤ 8
few_cites bytes whole = omega (arith, spelled_length bytes whole.0, whole.1)
