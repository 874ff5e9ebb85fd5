-- One region that a range cuts: laws from the code's ways to the model's Carve room.
pub mod CarvedOne
pub mod CutRefusalLaws
