-- The regions that a range cuts, taken out of list order.
pub mod TakenOut
pub mod TakenOutLaws
