-- Many calls with one soundness test: what they answer and leave, and why one test is enough.
pub mod RunAll
pub mod SequenceLaws
pub mod OneLaws
pub mod RowLaws
pub mod RunAllLaws
