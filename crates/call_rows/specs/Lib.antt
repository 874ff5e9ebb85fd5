-- Calls and answers as words: which call words name, and what of an answer stands where.
pub mod Asked
pub mod Told
pub mod BehindLaws
pub mod AskedLaws
pub mod ToldLaws
