-- The parts of a region that is split.
pub mod PartsLaws
