-- What a lent list holds when something is written over it. Assumes nothing.
use Rattle.std.specs.Prelude.{ℕ, ◌+◌, List, ◌++◌, length, take, drop}

-- Items are written over its front: what stands behind them stays.
abbrev pub fronted : {X : Type 0} → (items list : List X) → List X
fronted items list = items ++ drop (length items) list

-- They are written over it from a place on: what stands before and behind them stays.
abbrev pub written : {X : Type 0} → (start : ℕ) → (items list : List X) → List X
written start items list = take start list ++ (items ++ drop (start + length items) list)
