-- What a new page of a region holds.
pub mod Fill
pub mod FillLaws
