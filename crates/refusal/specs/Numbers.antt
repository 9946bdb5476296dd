-- The numbers of document 01, "Stops, in checking order", and of document 02: 19 is W3's, 20 W7's, 22 W10's, 24 W12's, 25 and 26 W13's, 27 W14's.
-- Assumes nothing.
use Rattle.std.specs.Prelude.{ℕ}
use Rattle.refusal.specs.declared.Reason.{Reason}
use Rattle.refusal.specs.declared.Reason.TheVariants.{TableCut, CommandNotAllowed, FactCountOutOfRange, TooManyJobs, TableMaskOutOfRange, EffectsOverlap, BytesAfterTable, BadReading, StartUnread, ListFull, NoWay}
use Rattle.refusal.specs.declared.Reason.TheVariants.{TreeTooShort, BadTree, TreeTooDeep, TreeOperandOutOfRange, NoSuchJob, NeedNotHeld, CardExhausted, JobTooLong, OtherOrigin}
use Rattle.refusal.specs.declared.Reason.TheVariants.{NeedsContradict, BadLicences, TooManyFacts, BadRowLength, BadMap}

abbrev pub number_of : Reason → ℕ
number_of TableCut = 1
number_of CommandNotAllowed = 2
number_of FactCountOutOfRange = 3
number_of TooManyJobs = 4
number_of TableMaskOutOfRange = 5
number_of EffectsOverlap = 6
number_of BytesAfterTable = 7
number_of BadReading = 8
number_of StartUnread = 9
number_of ListFull = 10
number_of NoWay = 11
number_of TreeTooShort = 12
number_of BadTree = 13
number_of TreeTooDeep = 14
number_of TreeOperandOutOfRange = 15
number_of NoSuchJob = 16
number_of NeedNotHeld = 17
number_of CardExhausted = 18
number_of JobTooLong = 19
number_of OtherOrigin = 20
number_of NeedsContradict = 22
number_of BadLicences = 24
number_of TooManyFacts = 25
number_of BadRowLength = 26
number_of BadMap = 27
