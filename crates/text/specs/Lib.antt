-- The definitions of the script's text, and their laws.
pub mod Lines
pub mod LinesLaws
pub mod Numeral
pub mod NumeralLaws
pub mod LineWords
pub mod Write
pub mod WriteLaws
pub mod RowLaws
