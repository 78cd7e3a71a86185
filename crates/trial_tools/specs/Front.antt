-- A list that begins with some items, and holds behind them what it held before. Assumes nothing.
use Rattle.std.specs.Prelude.{◌≡◌, ℕ, ◌<◌, Bool, true, List, length, slice_index_or}

-- Place by place, by the equality of the items.
abbrev pub HoldsFront : {T : Type 0} → (T → T → Bool) → (list front : List T) → (before : T) → Type 0
HoldsFront same list front before = (place : ℕ) → place < length list → same (slice_index_or list place before) (slice_index_or front place before) ≡ true
