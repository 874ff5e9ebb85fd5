-- What the exported calls do to lent words.
pub mod LentManager
pub mod LentManagerLaws
