-- What the tests of backings and holders are proved by.
pub mod Met
pub mod MetLaws
pub mod FreeFramesLaws
pub mod MeetsLaws
pub mod Held
pub mod HeldLaws
pub mod Tally
pub mod TallyLaws
pub mod OnePage
pub mod OnePageLaws
pub mod HoldRowsLaws
