-- What a clone that copies is proved by.
pub mod CopyPage
pub mod CopyPageLaws
pub mod CopyInto
pub mod CopyIntoLaws
pub mod CopyRange
pub mod CopyRangeLaws
pub mod CopyEntries
pub mod CopyEntriesLaws
