-- What start, open and close are stated and proved by.
pub mod Opening
pub mod OpeningLaws
pub mod PinnedLaws
pub mod CloseLaws
pub mod Start
pub mod StartLaws
