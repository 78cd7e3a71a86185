-- A check of each member of a list passes where it passes each member.
use Rattle.std.proofs.Common.{◌≡◌, ℕ, zero, suc, ◌+◌, ◌<◌, Bool, true, false, List, [], ◌∷◌, map, length, Some, None, sym, refl, ap, ◌∙◌, add-zero, arith}
use Rattle.refusal.proofs.Checks.{passed_first, pass_first}
use Rattle.refusal.specs.Answers.{Check, check_at, refusal_of}
use Rattle.refusal.specs.declared.reason.Reason.{Reason}
use Rattle.roster.specs.Certificate.{each}
use Rattle.std.proofs.lemmas.Bool.{cond-true, cond-false}
use Rattle.std.specs.List.{AllByRecursion, AllWithin, HoldsAt}

module _ {X : Type 0} (one : ℕ → X → Check) (bad : X → Bool) (same : (place : ℕ) (x : X) → (one place x).fails ≡ bad x) where
  pub each_passed : (first : ℕ) (xs : List X) → refusal_of (each one first xs) ≡ None → AllByRecursion (λ x. bad x ≡ false) xs
  unfolding each
  each_passed first [] e = tt
  each_passed first (x ∷ xs) e =
      let here = passed_first (one first x) (each one (suc first) xs) e in
      (sym (same first x) ∙ here.0, each_passed (suc first) xs here.1)

  pub each_passes : (first : ℕ) (xs : List X) → AllByRecursion (λ x. bad x ≡ false) xs → refusal_of (each one first xs) ≡ None
  unfolding each
  each_passes first [] all = refl
  each_passes first (x ∷ xs) all = pass_first (one first x) (each one (suc first) xs) (same first x ∙ all.0) (each_passes (suc first) xs all.1)

-- a search for the first member that fails, where the refusal does not hang on the member
module _ {X : Type 0} (bad : X → Bool) (why : Reason) where
  abbrev pub Checked : ℕ → List X → List Check
  Checked = each (λ place x. check_at place (bad x) why)

  pub none_bad : (first : ℕ) (xs : List X) → AllWithin (λ x. bad x ≡ false) xs 0 (length xs) → refusal_of (Checked first xs) ≡ None
  unfolding each
  none_bad first [] fine = refl
  none_bad first (x ∷ xs) fine =
      cond-false (bad x) _ _ (fine 0 x (omega arith) (omega arith)) ∙ none_bad (suc first) xs (λ k d l h. fine (suc k) d (omega arith) (omega arith))

  pub first_bad : (first : ℕ) (xs : List X) (i : ℕ) → i < length xs → HoldsAt (λ x. bad x ≡ true) xs i → AllWithin (λ x. bad x ≡ false) xs 0 i → refusal_of (Checked first xs) ≡ Some (check_at (first + i) true why).refusal
  unfolding each
  first_bad first [] i l here fine = absurd (omega arith)
  first_bad first (x ∷ xs) zero l here fine = cond-true (bad x) _ _ (here x) ∙ ap (λ p. Some (check_at p true why).refusal) (sym (add-zero first))
  first_bad first (x ∷ xs) (suc i) l here fine =
      let onward : suc first + i ≡ first + suc i = omega arith in
      cond-false (bad x) _ _ (fine 0 x (omega arith) (omega arith)) ∙ first_bad (suc first) xs i (omega arith) here (λ k d l h. fine (suc k) d (omega arith) (omega arith)) ∙ ap (λ p. Some (check_at p true why).refusal) onward

-- the same over what f makes of each member
pub checked_map : {X Y : Type 0} (f : Y → X) (bad : X → Bool) (why : Reason) (first : ℕ) (ys : List Y) → Checked (λ y. bad (f y)) why first ys ≡ Checked bad why first (map f ys)
unfolding each
checked_map f bad why first [] = refl
checked_map f bad why first (y ∷ ys) = ap (λ cs. check_at first (bad (f y)) why ∷ cs) (checked_map f bad why (suc first) ys)
