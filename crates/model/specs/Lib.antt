-- The rooms, in reading order. What a reader must believe is in the first four groups; the rest are laws about it.
-- the machine
pub mod Machine
pub mod Answers
pub mod Lookup
pub mod Paging
pub mod Backing
pub mod Segments
-- the calls
pub mod Create
pub mod Fault
pub mod Populate
pub mod Carve
pub mod Clone
pub mod Protect
pub mod Remove
pub mod Pins
pub mod Access
pub mod Refusals
pub mod Calls
pub mod Run
pub mod Meant
-- the rules R1 to R6, and POSIX
pub mod Sound
pub mod SoundTest
pub mod Posix
-- the lent words as tables
pub mod Layout
-- P1 to P12, and two points of our own
pub mod PointTable
pub mod PointTableLaws
pub mod Open
pub mod PointRows
pub mod RangeRows
pub mod Points
-- laws
pub mod RuleUseLaws
pub mod Holders
pub mod HolderLaws
pub mod FoundRowLaws
pub mod SoundLaws
pub mod RecordLaws
pub mod RefusalLaws
pub mod EmptyLaws
pub mod SettledLaws
pub mod LookupLaws
pub mod MachineLaws
pub mod MappedBelowLaws
pub mod VisitLaws
pub mod PopulateLaws
