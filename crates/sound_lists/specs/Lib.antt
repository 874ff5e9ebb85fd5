-- What the tests of lists are stated and proved by.
pub mod EachLaws
pub mod Marks
pub mod MarksLaws
pub mod ListOrder
pub mod ListOrderLaws
pub mod PageOrder
pub mod PageOrderLaws
pub mod ApartLaws
pub mod AscendingLaws
