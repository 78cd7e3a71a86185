-- Numbers as bytes, high byte first. Assumes nothing.
use Rattle.std.specs.Prelude.{ℕ, zero, suc, ◌/◌, ◌%◌, List, [], ◌∷◌, ◌++◌}

-- A number in one byte and k more.
abbrev pub wide : (k : ℕ) → ℕ → List ℕ
wide zero n = n ∷ []
wide (suc k) n = wide k (n / 256) ++ (n % 256 ∷ [])

-- A number in two bytes, and in eight.
abbrev pub two : ℕ → List ℕ
two n = wide 1 n

abbrev pub eight : ℕ → List ℕ
eight n = wide 7 n
