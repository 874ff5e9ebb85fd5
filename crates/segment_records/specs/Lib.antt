-- The rooms of this crate, in reading order.
pub mod Records
pub mod RecordsLaws
pub mod SameTableLaws
