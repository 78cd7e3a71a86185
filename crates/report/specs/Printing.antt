-- What the sheet program prints. Assumes nothing.
use Rattle.std.specs.Prelude.{ℕ, List, Option}
use Rattle.sheet.specs.Reports.{Reports}
use Rattle.std.specs.Io.KnownBytes.{Appends}

-- What is printed of an input's bytes is the report on all of them.
pub record PrintsReport (bytes : List ℕ) (before after : Option (List ℕ)) : Type 0 where
  pub text : List ℕ
  pub reports : Reports bytes text
  pub printed : Appends before after text
