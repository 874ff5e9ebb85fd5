-- What the crate is proved by: regions that overlap a new segment, the search over slots as they stand, the lowest free start.
pub mod InTheWay
pub mod InTheWayLaws
pub mod SlotSearchLaws
pub mod LowestSpot
pub mod LowestSpotLaws
