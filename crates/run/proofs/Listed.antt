-- The jobs that wait in a table, each with its line, as a chain of iterators lists them.
use Rattle.std.proofs.Common.{◌≡◌, ℕ, zero, suc, ◌+◌, ◌<◌, List, [], ◌∷◌, length, get_or, Some, None, Option, sym, ap, ◌∙◌, subst, add-zero, arith}
use Rattle.std.specs.List.{All, enumerate_from, filter_map}
use Rattle.std.specs.Option.{option_map}

module _ {X : Type 0} where
  abbrev pub with_place : ℕ × Option X → Option (ℕ × X)
  with_place p = option_map (λ x. (p.0, x)) p.1

  abbrev pub listed : ℕ → List (Option X) → List (ℕ × X)
  listed n xs = filter_map with_place (enumerate_from n xs)

  -- what is listed stands at its place
  pub listed_there : (n : ℕ) (xs : List (Option X)) (p : ℕ × X) (k : ℕ) → k < length (listed n xs) → get_or (listed n xs) k p ≡ p → (i : ℕ) × (p.0 ≡ n + i) × (get_or xs i None ≡ Some p.1)
  listed_there n [] p k l e = absurd (omega arith)
  listed_there n (None ∷ xs) p k l e = let h = listed_there (n + 1) xs p k l e in (suc h.0, omega (arith, h.1), h.2)
  listed_there n (Some x ∷ xs) p zero l e = (0, ap (λ q. q.0) (sym e) ∙ sym (add-zero n), ap (λ q. Some q.1) e)
  listed_there n (Some x ∷ xs) p (suc k) l e = let h = listed_there (n + 1) xs p k (omega arith) e in (suc h.0, omega (arith, h.1), h.2)

  -- and what stands at a place is listed
  pub listed_all : (P : ℕ × X → Type 0) (n : ℕ) (xs : List (Option X)) → All P (listed n xs) → (i : ℕ) (x : X) → get_or xs i None ≡ Some x → P (n + i, x)
  listed_all P n [] all i x e = absurd (cc)
  listed_all P n (None ∷ xs) all zero x e = absurd (cc)
  listed_all P n (None ∷ xs) all (suc i) x e = let at : n + 1 + i ≡ n + suc i = omega arith in subst (λ j. P (j, x)) at (listed_all P (n + 1) xs all i x e)
  listed_all P n (Some y ∷ xs) all zero x e =
      let same : y ≡ x = cc in
      subst (λ j. P (j, x)) (sym (add-zero n)) (subst (λ z. P (n, z)) same (all 0 (n, y) (omega arith)))
  listed_all P n (Some y ∷ xs) all (suc i) x e =
      let at : n + 1 + i ≡ n + suc i = omega arith in
      subst (λ j. P (j, x)) at (listed_all P (n + 1) xs (λ k d l. all (suc k) d (omega arith)) i x e)
