-- What the worked figures are about: lines, supplies, calls and a list of jobs. Assumes nothing.
use Rattle.std.specs.Prelude.{ℕ, List, [], ◌∷◌, map}
use Rattle.analysis.specs.History.{Call, enrol, cut}
use Rattle.analysis.specs.Watching.{Cite}
use Rattle.edf.specs.Jobs.{Job as Timed}
use Rattle.lines.specs.declared.row.Row.{Row}
use Rattle.run.specs.Timed.{timed_list}
use Rattle.run.specs.declared.job.Job.{Job}
use Rattle.supply.specs.Meaning.{Meaning}
use Rattle.supply.specs.Share.{share}
use Rattle.supply.specs.Timetable.{timetable}
use Rattle.supply.specs.Whole.{whole}

abbrev pub line : (period deadline cost : ℕ) → Row
line period deadline cost = record { period = period; deadline = deadline; cost = cost }

-- Three lines, and two kinds of two lines, each with its costs.
abbrev pub three_lines : (a b c : ℕ) → List Row
three_lines a b c = line 7 5 a ∷ line 11 7 b ∷ line 13 10 c ∷ []

abbrev pub close_lines : (a b : ℕ) → List Row
close_lines a b = line 8 6 a ∷ line 13 12 b ∷ []

abbrev pub loose_lines : (a b : ℕ) → List Row
loose_lines a b = line 8 5 a ∷ line 15 9 b ∷ []

-- The deadlines that are watched at first.
abbrev pub three_watched : List ℕ
three_watched = 5 ∷ 7 ∷ 10 ∷ 12 ∷ 18 ∷ 19 ∷ 23 ∷ 26 ∷ 29 ∷ 33 ∷ 36 ∷ 40 ∷ 47 ∷ 49 ∷ 51 ∷ 54 ∷ 61 ∷ 62 ∷ []

abbrev pub close_watched : List ℕ
close_watched = 6 ∷ 12 ∷ 14 ∷ 22 ∷ 25 ∷ 30 ∷ 38 ∷ []

abbrev pub loose_watched : List ℕ
loose_watched = 5 ∷ 9 ∷ 13 ∷ []

-- A cite of weight 1, and the calls that cut a deadline by such cites.
abbrev pub cited : (deadline : ℕ) → Cite
cited deadline = record { deadline = deadline; weight = 1 }

abbrev pub cut_62 : Call
cut_62 = cut 62 1 (cited 40 ∷ cited 12 ∷ cited 10 ∷ [])

abbrev pub cut_19 : Call
cut_19 = cut 19 1 (cited 7 ∷ cited 12 ∷ [])

abbrev pub cut_25 : Call
cut_25 = cut 25 2 (cited 38 ∷ cited 12 ∷ [])

-- A certificate for 25 that asks for too much.
abbrev pub cut_25_badly : Call
cut_25_badly = cut 25 1 (cited 12 ∷ cited 14 ∷ [])

-- The calls that enrol some lines, in their order.
abbrev pub enrols : List Row → List Call
enrols rows = map enrol rows

-- Two slots in three of the whole processor.
abbrev pub two_thirds : Meaning
two_thirds = share 2 3 whole

-- The first two of every four slots, and every second one of these.
abbrev pub half : Meaning
half = timetable 4 3

abbrev pub quarter : Meaning
quarter = share 1 2 half

-- The lines that are overloaded at 12, their witness list there, and the same jobs with their deadlines.
abbrev pub overloaded_lines : List Row
overloaded_lines = three_lines 3 3 4

abbrev pub full_job : (line release cost : ℕ) → Job
full_job line release cost = record { line = line; release = release; cost = cost }

abbrev pub witness_jobs : List Job
witness_jobs = full_job 0 0 3 ∷ full_job 1 0 3 ∷ full_job 2 0 4 ∷ full_job 0 7 3 ∷ []

abbrev pub witness_timed : List Timed
witness_timed = timed_list overloaded_lines witness_jobs

-- The slots of its run: three for job 0, three for job 1, four for job 2, and the two that are left for job 3.
abbrev pub witness_slots : List ℕ
witness_slots = 1 ∷ 1 ∷ 1 ∷ 2 ∷ 2 ∷ 2 ∷ 3 ∷ 3 ∷ 3 ∷ 3 ∷ 4 ∷ 4 ∷ []
