-- The number of each reason in the table of refusals. Assumes nothing.
use Rattle.std.specs.Prelude.{ℕ}
use Rattle.refusal.specs.declared.reason.Reason.{Reason}
use Rattle.refusal.specs.declared.reason.Reason.TheVariants.{LinesFull, PeriodOutOfRange, DeadlineOutOfRange, CostOutOfRange, HyperperiodTooLong, WatchListTooLong, NoSuchLine, NotWatched, CertificateOutOfRange, CountNotCovered, SupplyNotCovered, NothingOverloaded, ListTooShort, JobOutOfRange, JobTooSoon, TooLarge, TimetableUnlawful, ShareUnlawful, SheetCutShort, MarkMisplaced, ClosingCountWrong, BytesAfterEnd}

abbrev pub number_of : Reason → ℕ
number_of LinesFull = 1
number_of PeriodOutOfRange = 2
number_of DeadlineOutOfRange = 3
number_of CostOutOfRange = 4
number_of HyperperiodTooLong = 5
number_of WatchListTooLong = 6
number_of NoSuchLine = 7
number_of NotWatched = 8
number_of CertificateOutOfRange = 9
number_of CountNotCovered = 10
number_of SupplyNotCovered = 11
number_of NothingOverloaded = 12
number_of ListTooShort = 13
number_of JobOutOfRange = 14
number_of JobTooSoon = 15
number_of TooLarge = 16
number_of TimetableUnlawful = 17
number_of ShareUnlawful = 18
number_of SheetCutShort = 19
number_of MarkMisplaced = 20
number_of ClosingCountWrong = 21
number_of BytesAfterEnd = 22
