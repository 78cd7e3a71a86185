-- What `first` finds: the least number from 1 on that passes a test, and that nothing else is it.
use Rattle.std.proofs.Common.{◌≡◌, ℕ, zero, suc, ◌<◌, ◌≤◌, Bool, true, false, cond, ⊎_elim, arith}
use Rattle.lines.specs.Rest.{first}
use Rattle.std.proofs.lemmas.Bool.{cases_lt}

-- r is the least number from 1 to n that passes, or n + 1 where none does
pub record First (test : ℕ → Bool) (n r : ℕ) : Type 0 where
  pub positive : 1 ≤ r
  pub within : r ≤ suc n
  pub passes : r ≤ n → test r ≡ true
  pub before : (k : ℕ) → 1 ≤ k → k < r → test k ≡ false

-- one number more: the one found stands, or the next is looked at
first_next : (test : ℕ → Bool) (n r : ℕ) → First test n r → (passed : Bool) → test r ≡ passed → First test (suc n) (cond passed r (suc (suc n)))
first_next test n r found true e = record {
  positive = found.positive;
  within = omega (arith, found.within);
  passes = λ _. e;
  before = found.before;
}
first_next test n r found false e = record {
  positive = omega arith;
  within = omega arith;
  passes = λ h. absurd (omega arith);
  before = λ k one lower. grind (arith, found.before, found.passes, found.within);
}

pub first_found : (test : ℕ → Bool) (n : ℕ) → First test n (first test n)
unfolding first
first_found test zero = record {
  positive = omega arith;
  within = omega arith;
  passes = λ h. absurd (omega arith);
  before = λ k one lower. absurd (omega arith);
}
first_found test (suc n) = first_next test n (first test n) (first_found test n) (test (first test n)) mathlib.Core.Path.refl

-- where some number up to n passes, the first is no larger, and passes
pub first_at_most : (test : ℕ → Bool) (n k : ℕ) → 1 ≤ k → test k ≡ true → first test n ≤ k
first_at_most test n k one pass =
    let found = first_found test n in
    ⊎_elim (λ (l : k < first test n). let none = found.before k one l in absurd (grind arith)) (λ (m : first test n ≤ k). m) (cases_lt k (first test n))

pub first_passes : (test : ℕ → Bool) (n k : ℕ) → 1 ≤ k → k ≤ n → test k ≡ true → test (first test n) ≡ true
first_passes test n k one le pass = (first_found test n).passes (omega (arith, first_at_most test n k one pass))

-- a number that passes, with none before it, is the first
pub first_is : (test : ℕ → Bool) (n r : ℕ) → 1 ≤ r → r ≤ n → test r ≡ true → ((k : ℕ) → 1 ≤ k → k < r → test k ≡ false) → first test n ≡ r
first_is test n r one le pass none =
    let most = first_at_most test n r one pass in
    let passed = first_passes test n r one le pass in
    let found = first_found test n in
    ⊎_elim (λ (l : first test n < r). let fails = none (first test n) found.positive l in absurd (grind arith)) (λ (m : r ≤ first test n). omega arith) (cases_lt (first test n) r)
