-- The rooms of the definitions and laws: docs/ARCHITECTURE.md says which to read.
pub mod Number
