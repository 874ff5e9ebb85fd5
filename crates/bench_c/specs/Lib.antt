-- What the exported functions are stated and proved by.
pub mod Loads
pub mod LoadsLaws
pub mod FramesOn
pub mod FramesOnLaws
pub mod LookupsOn
pub mod LookupsOnLaws
