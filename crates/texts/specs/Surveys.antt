-- What a person reads of the counts of lines, and of a survey. Assumes nothing.
use Rattle.std.specs.Prelude.{ℕ, List, [], ◌∷◌, ◌++◌, codes, decimal, length}
use Rattle.lines.specs.Demand.{count, demand}
use Rattle.lines.specs.Rest.{first_rest}
use Rattle.lines.specs.declared.row.Row.{Row}
use Rattle.supply.specs.Meaning.{Meaning}

-- " 3 2": the count of each line at an instant, a blank before each.
abbrev pub counts_text : ℕ → List Row → List ℕ
counts_text at [] = []
counts_text at (row ∷ rows) = codes " " ++ (decimal (count row at) ++ counts_text at rows)

-- "at 12 counts 3 2 demand 12 of 12": what is asked for by an instant, and what is sure to be given.
abbrev pub instant_text : Meaning → List Row → ℕ → List ℕ
instant_text m rows at = codes "at " ++ (decimal at ++ (codes " counts" ++ (counts_text at rows ++ (codes " demand " ++ (decimal (demand rows at) ++ (codes " of " ++ (decimal (m.least at) ++ codes "\n")))))))

abbrev pub instants_text : Meaning → List Row → List ℕ → List ℕ
instants_text m rows [] = []
instants_text m rows (at ∷ ats) = instant_text m rows at ++ instants_text m rows ats

-- A survey: where the lines rest, how many deadlines are watched, and each of them.
abbrev pub survey_text : Meaning → List Row → List ℕ → List ℕ
survey_text m rows watched = codes "rest " ++ (decimal (first_rest rows) ++ (codes "\nwatched " ++ (decimal (length watched) ++ (codes "\n" ++ instants_text m rows watched))))
