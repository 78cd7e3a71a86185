-- What a person reads of a refusal: "refused 17 supply place 0: " and the sentence of the reason. Assumes nothing.
use Rattle.std.specs.Prelude.{ℕ, List, ◌++◌, codes, decimal}
use Rattle.refusal.specs.Numbers.{number_of}
use Rattle.refusal.specs.declared.Refusal.{Refusal}
use Rattle.refusal.specs.declared.layer.Layer.{Layer}
use Rattle.refusal.specs.declared.layer.Layer.TheVariants.{Supply, Roster, Run, Sheet}
use Rattle.refusal.specs.declared.reason.Reason.{Reason}
use Rattle.refusal.specs.declared.reason.Reason.TheVariants.{LinesFull, PeriodOutOfRange, DeadlineOutOfRange, CostOutOfRange, HyperperiodTooLong, WatchListTooLong, NoSuchLine, NotWatched, CertificateOutOfRange, CountNotCovered, SupplyNotCovered, NothingOverloaded, ListTooShort, JobOutOfRange, JobTooSoon, TooLarge, TimetableUnlawful, ShareUnlawful, SheetCutShort, MarkMisplaced, ClosingCountWrong, BytesAfterEnd}

-- The word for a layer.
abbrev pub layer_word : Layer → List ℕ
layer_word Supply = codes "supply"
layer_word Roster = codes "roster"
layer_word Run = codes "run"
layer_word Sheet = codes "sheet"

-- The words for a reason: what was wrong, and what would be right.
abbrev pub sentence : Reason → List ℕ
sentence LinesFull = codes "there are 8 lines already, and a roster holds no more"
sentence PeriodOutOfRange = codes "a line's period is from 1 to 1000"
sentence DeadlineOutOfRange = codes "a line's deadline is from 1 to its period"
sentence CostOutOfRange = codes "a line's cost is from 1 to 1000"
sentence HyperperiodTooLong = codes "the least common multiple of the periods is over 30000"
sentence WatchListTooLong = codes "more than 256 deadlines would have to be watched"
sentence NoSuchLine = codes "there is no line with this number"
sentence NotWatched = codes "the deadline to cut, or one that is cited, is not watched, or it cites itself"
sentence CertificateOutOfRange = codes "a certificate has 1 to 8 cites, and its divisor and weights are from 1 to 1000"
sentence CountNotCovered = codes "the cited deadlines do not cover the count of a line"
sentence SupplyNotCovered = codes "the cited deadlines ask for more slots than the supply gives at the deadline to cut"
sentence NothingOverloaded = codes "the roster fits, so there is no overload to witness"
sentence ListTooShort = codes "the list that was lent is too short; the place is the length needed"
sentence JobOutOfRange = codes "a job's line is not there, or its cost is not from 1 to the line's cost"
sentence JobTooSoon = codes "a job is released before the one in front of it, or nearer than a period to its line's last"
sentence TooLarge = codes "too large: at most 2048 jobs, deadlines up to 32000, sheets of up to 16384 bytes"
sentence TimetableUnlawful = codes "a timetable has 1 to 64 slots, at least one of them given, and no bit past its length"
sentence ShareUnlawful = codes "a share is S in F with 1 <= S <= F <= 64, and has at most 1000000 phases"
sentence SheetCutShort = codes "the sheet ends inside a record, or before its closing record"
sentence MarkMisplaced = codes "a record's mark is unknown, or not allowed at this place"
sentence ClosingCountWrong = codes "the closing record's count is not the number of records before it"
sentence BytesAfterEnd = codes "there are bytes after the closing record"

-- A refusal: its number, layer and place, and the sentence of its reason.
abbrev pub refusal_text : Refusal → List ℕ
refusal_text r = codes "refused " ++ (decimal (number_of r.reason) ++ (codes " " ++ (layer_word r.layer ++ (codes " place " ++ (decimal r.place ++ (codes ": " ++ sentence r.reason))))))
