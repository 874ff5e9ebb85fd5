-- A process's regions cloned one after the other.
pub mod CloneEach
pub mod CloneEachLaws
