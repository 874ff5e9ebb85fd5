-- Populate on lent memory: a walk step by step.
pub mod PopulatedLaws
pub mod PopulateWalk
pub mod PopulateWalkLaws
