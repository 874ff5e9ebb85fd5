-- What one process stores no other process sees in its private pages, and a clone keeps the bytes that it was given. What a reader must believe is
-- Statements, with model: Posix; the rest are laws.
pub mod Statements
-- what a view depends on
pub mod ViewLaws
pub mod Undisturbed
pub mod BackingsApart
pub mod LoneHolder
pub mod FrameBytes
-- loads and stores
pub mod StoreStays
pub mod LoadShows
-- the other calls, each leaving what it does not touch
pub mod Quiet
pub mod OtherStays
pub mod FaultStays
pub mod PopulateStays
pub mod CreateStays
pub mod CarveStays
-- clones
pub mod ClonedPages
pub mod Beside
pub mod EntriesAdded
pub mod Cloned
pub mod ShareStays
pub mod CopyStays
pub mod CloneStays
pub mod EagerClone
-- runs of calls, POSIX, and demand 3 whole
pub mod RunStays
pub mod PosixHolds
pub mod BackedReads
pub mod Guaranteed
