-- What the tests of rows are stated and proved by.
pub mod ZerosLaws
pub mod SumsLaws
pub mod Sizes
pub mod SizesLaws
pub mod ProcessRow
pub mod ProcessRowLaws
pub mod SlotRow
pub mod SlotRowLaws
pub mod EntryRow
pub mod EntryRowLaws
