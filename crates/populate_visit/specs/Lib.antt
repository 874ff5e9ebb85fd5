-- Which pages populate visits.
pub mod PageWalk
pub mod PageWalkLaws
