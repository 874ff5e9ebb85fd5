-- What a fault's way needs, test by test.
pub mod WayNeeds
pub mod WayNeedsLaws
