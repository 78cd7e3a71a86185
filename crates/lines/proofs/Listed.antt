-- The list of deadlines up to n: it rises, and holds the deadlines up to n and nothing else.
use Rattle.std.proofs.Common.{◌≡◌, ℕ, zero, suc, ◌<◌, ◌≤◌, Bool, true, false, List, [], ◌∷◌, ◌++◌, length, get_or, sym, refl, ap, subst, ⊎_elim, arith}
use Rattle.lines.proofs.Rising.{deadlines_due, deadlines_still}
use Rattle.lines.specs.Rest.{some, due, deadlines}
use Rattle.lines.specs.declared.row.Row.{Row}
use Rattle.std.proofs.ByRecursion.{has_append_left, has_push, has_push_cases}
use Rattle.std.proofs.lemmas.List.{length_push, get_or_append_left, get_or_push}
use Rattle.std.proofs.lemmas.Bool.{cases_lt}
use Rattle.std.specs.List.{ContainsAt as Has}

-- every number of the list is at most n
abbrev Bounded : List ℕ → ℕ → Type 0
Bounded ds n = (i : ℕ) → i < length ds → get_or ds i 0 ≤ n

-- the list rises
abbrev Rises : List ℕ → Type 0
Rises ds = (i j : ℕ) → i < j → j < length ds → get_or ds i 0 < get_or ds j 0

rises_push : (ds : List ℕ) (n d : ℕ) → n < d → Bounded ds n → Rises ds → Rises (ds ++ (d ∷ [])) × Bounded (ds ++ (d ∷ [])) d
rises_push ds n d l most up =
    let longer = length_push ds d in (
      λ i j k m.
          let first = get_or_append_left ds (d ∷ []) 0 i (omega arith) in
          ⊎_elim (λ (h : j < length ds). let second = get_or_append_left ds (d ∷ []) 0 j h in omega (arith, up i j k h)) (λ (h : length ds ≤ j).
          let second = get_or_push ds d 0 j (omega arith) in
          omega (arith, most i (omega arith))) (cases_lt j (length ds)),
      λ i m.
          ⊎_elim (λ (h : i < length ds). let at = get_or_append_left ds (d ∷ []) 0 i h in omega (arith, most i h)) (λ (h : length ds ≤ i). let at = get_or_push ds d 0 i (omega arith) in omega arith) (cases_lt i (length ds)),
    )

module _ (rows : List Row) where
  rises_next : (n : ℕ) (b : Bool) → some (due (suc n)) rows ≡ b → Rises (deadlines rows n) × Bounded (deadlines rows n) n → Rises (deadlines rows (suc n)) × Bounded (deadlines rows (suc n)) (suc n)
  rises_next n true e h =
      subst (λ ds. Rises ds × Bounded ds (suc n)) (sym (deadlines_due rows n e)) (rises_push (deadlines rows n) n (suc n) (omega arith) h.1 h.0)
  rises_next n false e h =
      subst (λ ds. Rises ds × Bounded ds (suc n)) (sym (deadlines_still rows n e)) (h.0, λ i l. omega (arith, h.1 i l))

  pub deadlines_rise : (n : ℕ) → Rises (deadlines rows n) × Bounded (deadlines rows n) n
  unfolding deadlines
  deadlines_rise zero = (λ i j k l. absurd (omega arith), λ i l. absurd (omega arith))
  deadlines_rise (suc n) = rises_next n (some (due (suc n)) rows) refl (deadlines_rise n)

  listed_next : (n t : ℕ) (b : Bool) → some (due (suc n)) rows ≡ b → (t ≤ n → Has (deadlines rows n) t) → some (due t) rows ≡ true → t ≤ suc n → Has (deadlines rows (suc n)) t
  listed_next n t true e before here le =
      subst (λ ds. Has ds t) (sym (deadlines_due rows n e)) (⊎_elim (λ (l : t < suc n). has_append_left (deadlines rows n) (suc n ∷ []) t (before (omega arith))) (λ (g : suc n ≤ t). subst (λ x. Has (deadlines rows n ++ (suc n ∷ [])) x) (last g) (has_push (deadlines rows n) (suc n))) (cases_lt t (suc n)))
    where
      last : suc n ≤ t → suc n ≡ t
      last g = omega arith
  listed_next n t false e before here le =
      subst (λ ds. Has ds t) (sym (deadlines_still rows n e)) (⊎_elim (λ (l : t < suc n). before (omega arith)) (λ (g : suc n ≤ t). absurd (clash g)) (cases_lt t (suc n)))
    where
      clash : suc n ≤ t → ⊥
      clash g = let same : t ≡ suc n = omega arith in let due-then = ap (λ x. some (due x) rows) same in grind arith

  -- a deadline of some line is in the list
  pub deadlines_hold : (n t : ℕ) → some (due t) rows ≡ true → 1 ≤ t → t ≤ n → Has (deadlines rows n) t
  deadlines_hold zero t here one le = absurd (omega arith)
  deadlines_hold (suc n) t here one le = listed_next n t (some (due (suc n)) rows) refl (λ h. deadlines_hold n t here one h) here le

  only_next : (n t : ℕ) (b : Bool) → some (due (suc n)) rows ≡ b → (Has (deadlines rows n) t → some (due t) rows ≡ true) → Has (deadlines rows (suc n)) t → some (due t) rows ≡ true
  only_next n t true e before h =
      ⊎_elim before (λ (last : suc n ≡ t). subst (λ x. some (due x) rows ≡ true) last e) (has_push_cases (deadlines rows n) (suc n) t (subst (λ ds. Has ds t) (deadlines_due rows n e) h))
  only_next n t false e before h = before (subst (λ ds. Has ds t) (deadlines_still rows n e) h)

  -- and nothing else is
  pub deadlines_only : (n t : ℕ) → Has (deadlines rows n) t → some (due t) rows ≡ true
  unfolding deadlines
  deadlines_only zero t h = absurd (omega (arith, h.1))
  deadlines_only (suc n) t h = only_next n t (some (due (suc n)) rows) refl (deadlines_only n t) h

  pub deadlines_bounded : (n t : ℕ) → Has (deadlines rows n) t → t ≤ n
  deadlines_bounded n t h = omega (arith, (deadlines_rise n).1 h.0 h.1, h.2 0)
