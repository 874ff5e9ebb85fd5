-- The manager on lent words: what words mean, what the calls leave in them, and the laws of both.
pub mod LentWords
pub mod LentWordsLaws
pub mod LentLoopsLaws
pub mod LentCalls
pub mod LentCallsLaws
pub mod RowRule
pub mod RowRuleLaws
pub mod PlaceIn
pub mod PlaceInLaws
pub mod OnePass
pub mod OnePassLaws
pub mod PartPutLaws
pub mod LentWaysLaws
