-- The supply that the numbers of a plan name. Assumes nothing.
use Rattle.std.specs.Prelude.{◌≡◌, Bool, true, false, cond, ◌&&◌, ◌||◌, ◌==◌, MatchOption, Option}
use Rattle.supply.specs.Meaning.{Meaning}
use Rattle.supply.specs.Named.{bottom, named}
use Rattle.supply.specs.Share.{share, lawful_share}
use Rattle.supply.specs.Timetable.{lawful_timetable, timetable}
use Rattle.supply.specs.Whole.{whole}
use Rattle.supply.specs.declared.named.Bottom.{Bottom}
use Rattle.supply.specs.declared.named.Named.{Named}
use Rattle.trial_tools.specs.declared.plan.Plan.{Plan}

-- A row of one slot is the whole processor.
abbrev pub row_of : Plan → Meaning
row_of p = cond (p.length == 1) whole (timetable p.length p.word)

-- 1 in 1 is no share.
abbrev pub meaning_of : Plan → Meaning
meaning_of p = cond (p.turn == 1) (row_of p) (share p.taken p.turn (row_of p))

abbrev pub lawful_row : Plan → Bool
lawful_row p = p.length == 1 || lawful_timetable p.length p.word

abbrev pub lawful_plan : Plan → Bool
lawful_plan p = lawful_row p && (p.turn == 1 || lawful_share (row_of p) p.taken p.turn)

-- What is made of a row: a supply of its meaning where it is lawful, and else nothing.
abbrev pub MakesRow : Plan → Option Bottom → Type 0
MakesRow p made = MatchOption made (lawful_row p ≡ false) (λ below. (lawful_row p ≡ true) × (bottom below ≡ row_of p))

-- What is made of a plan: a supply of its meaning where it is lawful, and else nothing.
abbrev pub MakesPlan : Plan → Option Named → Type 0
MakesPlan p made = MatchOption made (lawful_plan p ≡ false) (λ supply. (lawful_plan p ≡ true) × (named supply ≡ meaning_of p))
