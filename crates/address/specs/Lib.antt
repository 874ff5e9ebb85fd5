-- The rooms of the definitions and laws: docs/ARCHITECTURE.md says which to read.
pub mod Bits
pub mod Canonical
pub mod Pages
pub mod PagesLaws
pub mod Flags
pub mod FlagsLaws
pub mod BitsLaws
pub mod CanonicalLaws
