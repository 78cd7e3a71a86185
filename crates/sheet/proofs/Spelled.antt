-- The digits of a number: those of its tenth, and the last one.
use Rattle.std.proofs.Common.{◌≡◌, ℕ, ◌+◌, ◌/◌, ◌%◌, ◌^◌, ◌<◌, ◌≤◌, List, [], ◌∷◌, ◌++◌, length, decimal, sym, ap, ◌∙◌, arith}
use Rattle.std.proofs.lemmas.Fmt.{decimal_digit, decimal_step, length-decimal-le}
use Rattle.std.proofs.lemmas.List.{length_push}

module _ (n : ℕ) (front : List ℕ) where
  pub one_digit : n < 10 → front ≡ [] → front ++ ((48 + n % 10) ∷ []) ≡ decimal n
  one_digit l e =
      let same : n % 10 ≡ n = omega arith in
      ap (λ t. t ++ ((48 + n % 10) ∷ [])) e ∙ ap (λ k. (48 + k) ∷ []) same ∙ sym (decimal_digit n l)

  module _ (more : 10 ≤ n) (small : n < 2 ^ 32) (tenth : front ≡ decimal (n / 10)) where
    pub more_digits : front ++ ((48 + n % 10) ∷ []) ≡ decimal n
    more_digits = ap (λ t. t ++ ((48 + n % 10) ∷ [])) tenth ∙ sym (decimal_step n more (omega arith))

    pub few_digits : length front < 10
    few_digits =
        omega (arith, ap length tenth, ap length (decimal_step n more (omega arith)), length_push (decimal (n / 10)) (48 + n % 10), length-decimal-le 10 n (omega arith) (omega arith) (omega arith))
