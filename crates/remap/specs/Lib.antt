-- A process's mapped rows with other flags: in place row by row, and what that is of a page table.
pub mod Demoted
pub mod DemotedLaws
pub mod Remapped
pub mod RemappedLaws
