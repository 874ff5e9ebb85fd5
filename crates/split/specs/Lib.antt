-- Splitting a region in place: laws from the code's ways to the model's Carve room.
pub mod SplitBound
pub mod SplitBoundLaws
pub mod GivenEntries
pub mod GivenEntriesLaws
pub mod ListRoom
pub mod ListRoomLaws
