-- The ways through the choice of a fault's way.
pub mod Way
pub mod WayLaws
