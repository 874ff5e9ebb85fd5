-- The numbering of the machine's calls, and what its proofs cite.
pub mod CallOf
pub mod CallOfLaws
