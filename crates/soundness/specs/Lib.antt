-- The soundness test on lent memory, and its stages.
pub mod SoundLent
pub mod Stages
pub mod StageLaws
