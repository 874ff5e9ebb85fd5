-- Every call keeps a sound machine sound. The rooms in reading order: the theorems are in the last two.
-- lists, rows, tests: nothing of the machine
-- the model's small functions on lists
-- the rules by row and by membership, with holders that are owed
pub mod Owing
pub mod OwingLaws
pub mod BacksLaws
pub mod HomesLaws
pub mod OwingOfSound
pub mod SoundOfOwing
pub mod AlikeLaws
-- one table changed: the primitive laws
pub mod MappedKept
pub mod MapOrderLaws
pub mod PagesKept
pub mod BackingsKept
pub mod SlotsKept
pub mod EntriesKept
pub mod OrderKept
pub mod OpenKept
pub mod ProcessesKept
pub mod FreeLaws
pub mod FrameLengthLaws
-- a call and its core
pub mod GuardedKept
pub mod CoreKept
pub mod LetGoLaws
pub mod ArgumentLaws
-- calls that look, open, pins, protection
pub mod LookingKept
pub mod PinKept
pub mod ProtectKept
-- faults
pub mod FaultWayLaws
pub mod OwnFrameKept
pub mod FaultKept
pub mod PopulateKept
pub mod RegionsStay
-- removal
pub mod DropKept
pub mod RemovalKept
pub mod CloseKept
-- creation
pub mod AddedKept
pub mod SpotLaws
pub mod CreateKept
-- clones
pub mod ClonePagesLaws
pub mod ShareKept
pub mod Grows
pub mod CloneShareKept
pub mod CloneCopyKept
pub mod CloneKept
-- carve
pub mod CutKept
pub mod SplitKept
pub mod CarveKept
-- the theorems
pub mod CallsKept
pub mod Reached
