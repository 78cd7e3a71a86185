-- What a contract sees of a short list. Assumes nothing.
use Rattle.std.specs.Prelude.{List}

-- The values in their order, and those in the places behind them, of which no clause says anything.
pub record Short (T : Type 0) : Type 0 where
  pub items : List T
  pub spare : List T
