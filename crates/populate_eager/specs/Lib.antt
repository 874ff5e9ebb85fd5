-- Eager populate on lent memory, region after region.
pub mod Tour
pub mod TourLaws
