-- Points of our own, and machines that the soundness test refuses: what the definitions of crate `model` compute beside the edges.
pub mod EdgeRows
pub mod Points
pub mod Damaged
