-- Multiples: how they divide, and how a walk over the multiples of one number finds the least common one.
use Rattle.std.proofs.Common.{◌≡◌, ℕ, ◌+◌, ◌-◌, ◌*◌, ◌%◌, ◌<◌, ◌≤◌, min, max, sym, ap, ◌∙◌, ⊎_elim, arith}
use Rattle.lines.specs.Common.{Common, LeastCommon}
use Rattle.std.proofs.lemmas.Bool.{cases_lt}
use native.Mathlib.Nat.{add-mod_right, dvd_of_mod-eq-zero, mod-eq-zero_of_dvd, dvd_trans, dvd-mod_iff, dvd-sub, le_of_dvd, dvd-mul_right, dvd-mul_left_of_dvd, mod_self}

-- what divides a divisor divides the multiple
pub mod_through : (t h m : ℕ) → h % t ≡ 0 → m % h ≡ 0 → m % t ≡ 0
mod_through t h m th hm = mod-eq-zero_of_dvd t (dvd_trans t (dvd_of_mod-eq-zero t th) (dvd_of_mod-eq-zero h hm))

-- what divides two numbers divides the remainder of one by the other
pub mod_of_mod : (t h m : ℕ) → h % t ≡ 0 → m % t ≡ 0 → (m % h) % t ≡ 0
mod_of_mod t h m th tm = mod-eq-zero_of_dvd t ((dvd-mod_iff t (dvd_of_mod-eq-zero t th)).1 (dvd_of_mod-eq-zero t tm))

pub multiple_left : (t n : ℕ) → (t * n) % t ≡ 0
multiple_left t n = mod-eq-zero_of_dvd t (dvd-mul_right t n)

pub multiple_right : (t h n : ℕ) → h % t ≡ 0 → (n * h) % t ≡ 0
multiple_right t h n th = mod-eq-zero_of_dvd t (dvd-mul_left_of_dvd t (dvd_of_mod-eq-zero t th) n)

-- two multiples of a step are a step apart, if they differ
pub multiples_apart : (step m n : ℕ) → m % step ≡ 0 → n % step ≡ 0 → m < n → m + step ≤ n
multiples_apart step m n em en l =
    let apart = dvd-sub step (dvd_of_mod-eq-zero step en) (dvd_of_mod-eq-zero step em) in
    let far : step ≤ n - m = le_of_dvd (omega arith) apart in
    omega arith

-- the walk: m is a multiple of the step, and no common multiple comes before it
pub record Walked (step other m : ℕ) : Type 0 where
  pub positive : 1 ≤ m
  pub multiple : m % step ≡ 0
  pub none : (n : ℕ) → Common step other n → m ≤ n

pub walk_none : (step other : ℕ) → 1 ≤ step → Walked step other step
walk_none step other one = record {
  positive = one;
  multiple = mod_self step;
  none = λ n c. le_of_dvd c.positive (dvd_of_mod-eq-zero step c.left);
}

pub walk_more : (step other m : ℕ) → (m % other ≡ 0 → ⊥) → Walked step other m → Walked step other (m + step)
walk_more step other m fails w = record {
  positive = omega (arith, w.positive);
  multiple = add-mod_right m step ∙ w.multiple;
  none = λ n c. ⊎_elim (λ (l : m < n). multiples_apart step m n w.multiple c.left l) (λ (g : n ≤ m).
      let same : n ≡ m = omega (arith, w.none n c) in
      absurd (fails (sym (ap (λ x. x % other) same) ∙ c.right))) (cases_lt m n);
}

pub walk_all : (step other m : ℕ) → m % other ≡ 0 → Walked step other m → LeastCommon step other m
walk_all step other m e w = record {
  common = record { positive = w.positive; left = w.multiple; right = e };
  least = w.none;
}

pub common_swap : (a b m : ℕ) → Common a b m → Common b a m
common_swap a b m c = record { positive = c.positive; left = c.right; right = c.left }

-- the larger of two numbers steps, and the smaller is tested
module _ (a b step other : ℕ) (larger : step ≡ max a b) (smaller : other ≡ min a b) where
  pub common_ordered : (m : ℕ) → Common a b m → Common step other m
  common_ordered m c =
      ⊎_elim (λ (l : a < b). let s : step ≡ b = omega arith in let o : other ≡ a = omega arith in rw (s, o) (common_swap a b m c)) (λ (g : b ≤ a). let s : step ≡ a = omega arith in let o : other ≡ b = omega arith in rw (s, o) c) (cases_lt a b)

  pub common_unordered : (m : ℕ) → Common step other m → Common a b m
  common_unordered m c =
      ⊎_elim (λ (l : a < b). let s : step ≡ b = omega arith in let o : other ≡ a = omega arith in common_swap b a m (rw (s, o) at c)) (λ (g : b ≤ a). let s : step ≡ a = omega arith in let o : other ≡ b = omega arith in rw (s, o) at c) (cases_lt a b)

  pub least_common_unordered : (m : ℕ) → LeastCommon step other m → LeastCommon a b m
  least_common_unordered m c = record { common = common_unordered m c.common; least = λ n k. c.least n (common_ordered n k) }
