-- Regions against a range, and the answer of carve: laws from the code's ways to the model's Carve room.
pub mod InPart
pub mod InPartLaws
pub mod PinnedInside
pub mod PinnedInsideLaws
pub mod CarveAnswer
pub mod CarveAnswerLaws
