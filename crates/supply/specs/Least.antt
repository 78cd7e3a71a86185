-- What follows from the laws of a supply alone: least is bounded, monotone and superadditive.
-- Lemmas: they stand in specs/ since the laws of an `impl` cite them, and nobody has to believe them.
use Rattle.std.specs.Prelude.{◌≡◌, ℕ, zero, suc, ◌+◌, ◌<◌, ◌≤◌}
use Rattle.std.proofs.Common.{ap, arith}
use native.Mathlib.Nat.{zero-add}
use Rattle.supply.specs.Meaning.{Meaning, Counting, Lawful}

-- g never counts more slots than there are
pub counted_within : (g : ℕ → ℕ) → Counting g → (n : ℕ) → g n ≤ n
counted_within g c zero = omega (arith, c.starts)
counted_within g c (suc n) = let below = counted_within g c n in omega (arith, c.climbs n)

-- more slots hold no fewer given ones
pub counted_more : (g : ℕ → ℕ) → Counting g → (a n : ℕ) → g a ≤ g (a + n)
counted_more g c a zero = omega (arith, ap g (native.Mathlib.Nat.add-zero a))
counted_more g c a (suc n) =
    let below = counted_more g c a n in
    omega (arith, c.keeps (a + n), ap g (native.Mathlib.Nat.add-suc a n))

module _ (m : Meaning) (law : Lawful m) where
  -- the counts of a phase that is there
  pub phase_counts : (p : ℕ) → p < m.phases → Counting (m.count p)
  phase_counts p there = law.counts.1 p there

  worst_there : (n : ℕ) → m.worst n < m.phases
  worst_there n = (law.attained n).0

  worst_counts : (n : ℕ) → Counting (m.count (m.worst n))
  worst_counts n = phase_counts (m.worst n) (worst_there n)

  pub least_bounded : (n : ℕ) → m.least n ≤ n
  least_bounded n = omega (arith, (law.attained n).1, counted_within (m.count (m.worst n)) (worst_counts n) n)

  -- the worst phase of a + n slots begins with a slots and goes on with n
  pub least_superadditive : (a n : ℕ) → m.least a + m.least n ≤ m.least (a + n)
  least_superadditive a n =
      let p = m.worst (a + n) in
      let there = worst_there (a + n) in
      let none : m.count p 0 ≡ 0 = (worst_counts (a + n)).starts in
      let first : m.count p 0 + m.least a ≤ m.count p (0 + a) = law.windows p 0 a there in
      let same : m.count p (0 + a) ≡ m.count p a = ap (m.count p) (zero-add a) in
      let then : m.count p a + m.least n ≤ m.count p (a + n) = law.windows p a n there in
      let all : m.count p (a + n) ≡ m.least (a + n) = (law.attained (a + n)).1 in
      omega arith

  pub least_monotone : (a n : ℕ) → m.least a ≤ m.least (a + n)
  least_monotone a n = omega (arith, least_superadditive a n)
