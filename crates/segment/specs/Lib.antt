-- What a segment is, and its laws.
pub mod Form
pub mod FormLaws
