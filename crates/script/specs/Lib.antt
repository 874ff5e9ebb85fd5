-- The definitions of the program, and what its proofs cite.
pub mod FewLaws
pub mod FullLaws
pub mod Session
pub mod SessionLaws
