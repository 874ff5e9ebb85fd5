-- The machine's answers as the script writes them.
pub mod Written
