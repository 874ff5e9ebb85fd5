-- What the crate is stated and proved by: holders counted over the tables, a region dropped and removed, a process's regions cleared.
pub mod HoldingLaws
pub mod Accounted
pub mod AccountedLaws
pub mod Dropped
pub mod DroppedLaws
pub mod SlotDropped
pub mod SlotDroppedLaws
pub mod Removed
pub mod RemovedLaws
pub mod Cleared
pub mod ClearedLaws
pub mod RemoveCallLaws
