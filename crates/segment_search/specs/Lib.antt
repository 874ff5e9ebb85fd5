-- What the search finds, over a table of words, and its laws.
pub mod Search
pub mod SegmentWords
pub mod SegmentWordsLaws
pub mod TriesLaws
pub mod SearchLaws
pub mod SearchPoints
