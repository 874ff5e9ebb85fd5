-- What the accessors are proved by: words in a row, tables of rows, what a put leaves; and lent memory as a state.
pub mod RowWordsLaws
pub mod WordTableLaws
pub mod MachineTablesLaws
pub mod With
pub mod PutsLaws
pub mod LentMemory
pub mod GuardedLaws
pub mod FileRow
