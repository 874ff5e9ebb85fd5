-- What a line of a script asks for, from the whole line to its words, and the laws about it.
pub mod Parse
pub mod Values
pub mod Operand
pub mod WordList
pub mod Faults
pub mod WordListLaws
pub mod ValuesLaws
pub mod ParseLaws
pub mod Examples
