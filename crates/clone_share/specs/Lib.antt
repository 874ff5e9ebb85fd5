-- What a clone that shares is proved by.
pub mod EntryPutLaws
pub mod ShareNext
pub mod ShareNextLaws
pub mod ShareInto
pub mod ShareIntoLaws
