-- Common multiples of two numbers, and the least of them. Assumes nothing.
use Rattle.std.specs.Prelude.{◌≡◌, ℕ, ◌%◌, ◌≤◌}

-- m is a common multiple of a and b.
pub record Common (a b m : ℕ) : Type 0 where
  pub positive : 1 ≤ m
  pub left : m % a ≡ 0
  pub right : m % b ≡ 0

-- m is the least common multiple of a and b.
pub record LeastCommon (a b m : ℕ) : Type 0 where
  pub common : Common a b m
  pub least : (n : ℕ) → Common a b n → m ≤ n
