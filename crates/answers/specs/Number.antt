-- RULES E1 to E22: the number of each refusal.
use Rattle.std.specs.Prelude.{ℕ}
use Rattle.answers.specs.declared.Refusal.{Refusal}
use Rattle.answers.specs.declared.Refusal.TheVariants.{BadTable, NoProcess, BadAddress, BadRange, BadFlags, NoFile, NoRegion, NoSpace, SegmentReserved, InvalidSplitPoint, NotReserved, NotAccessible, NotWritable, OutOfMemory, ReadFailed, MapFailed, UnsupportedRegion, EagerBacking, Shared, InUse, TableFull, Denied}

abbrev pub number_of : Refusal → ℕ
number_of BadTable = 1
number_of NoProcess = 2
number_of BadAddress = 3
number_of BadRange = 4
number_of BadFlags = 5
number_of NoFile = 6
number_of NoRegion = 7
number_of NoSpace = 8
number_of SegmentReserved = 9
number_of InvalidSplitPoint = 10
number_of NotReserved = 11
number_of NotAccessible = 12
number_of NotWritable = 13
number_of OutOfMemory = 14
number_of ReadFailed = 15
number_of MapFailed = 16
number_of UnsupportedRegion = 17
number_of EagerBacking = 18
number_of Shared = 19
number_of InUse = 20
number_of TableFull = 21
number_of Denied = 22
