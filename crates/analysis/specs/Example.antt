-- One case of everything that the theorems speak of: the lines 8/5/2 and 15/9/4 after two enrols on the whole processor, and the
-- certificate by which 25 leaves the list of 8/6 and 13/12. Assumes nothing.
use Rattle.std.specs.Prelude.{ℕ, List, [], ◌∷◌, None}
use Rattle.analysis.specs.History.{Call, enrol, Reached}
use Rattle.analysis.specs.Legal.{Legal, witness}
use Rattle.analysis.specs.Verdict.{Verdict}
use Rattle.analysis.specs.Watching.{Exact, Cite, Certifies}
use Rattle.lines.specs.Demand.{AllLawful}
use Rattle.lines.specs.Rest.{full_list}
use Rattle.lines.specs.declared.row.Row.{Row}
use Rattle.supply.specs.Meaning.{Lawful}
use Rattle.supply.specs.Whole.{whole}

abbrev pub line : (period deadline cost : ℕ) → Row
line period deadline cost = record { period = period; deadline = deadline; cost = cost }

-- The two lines, and the calls that enrol them.
abbrev pub two_lines : List Row
two_lines = line 8 5 2 ∷ line 15 9 4 ∷ []

abbrev pub two_enrols : List Call
two_enrols = enrol (line 8 5 2) ∷ enrol (line 15 9 4) ∷ []

-- Two lines with a deadline that need not be watched, and the cites that speak for it.
abbrev pub close_lines : List Row
close_lines = line 8 6 2 ∷ line 13 12 10 ∷ []

abbrev pub cites : List Cite
cites = record { deadline = 38; weight = 1 } ∷ record { deadline = 12; weight = 1 } ∷ []

-- No premise of the theorems is empty.
pub record Example : Type 0 where
  pub supply : Lawful whole
  pub lines : AllLawful two_lines
  pub reached : Reached whole two_enrols two_lines (5 ∷ 9 ∷ 13 ∷ [])
  pub exact : Exact whole two_lines (5 ∷ 9 ∷ 13 ∷ [])
  pub verdict : Verdict whole two_lines (5 ∷ 9 ∷ 13 ∷ []) None
  pub legal : Legal two_lines (witness two_lines 13)
  pub certificate : Certifies whole close_lines (full_list close_lines) 25 2 cites
