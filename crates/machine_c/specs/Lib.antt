-- The answers of the exported calls as numbers and words.
pub mod Called
pub mod CalledLaws
pub mod Numbers
pub mod Out
pub mod OutLaws
pub mod RunLaws
