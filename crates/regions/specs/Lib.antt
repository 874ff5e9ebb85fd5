-- What the crate is stated and proved by: looking, covering a range, the list of starts, a region more in the list and a slot less.
pub mod LookLaws
pub mod SlotPastLaws
pub mod Cover
pub mod CoverLaws
pub mod Starts
pub mod ListingLaws
pub mod Added
pub mod AddedLaws
pub mod PickedLaws
pub mod Detached
pub mod DetachedLaws
pub mod RoomLaws
pub mod EntryAddedLaws
