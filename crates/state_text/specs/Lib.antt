-- What the text of the state is stated and proved by.
pub mod Left
pub mod Sum
pub mod SumLaws
