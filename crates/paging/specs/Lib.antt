-- What the mapper of the flat page table does, that it is what the model says, and what a page table means.
-- the rows, the search, and what each function leaves
pub mod ProcessRows
pub mod Place
pub mod Mapper
-- what the loops and the ways through the code know
pub mod ProcessRowsLaws
pub mod PutRowsLaws
pub mod MoveLaws
pub mod PlaceLaws
pub mod MapperStepLaws
-- where pages rise and the rows past them are free: the model's operations
pub mod Order
pub mod OrderLaws
pub mod PadLaws
pub mod WellPaged
pub mod MapperLaws
pub mod KeepLaws
-- the meaning of a page table, of any form
pub mod PageMapLaws
pub mod PageMap
