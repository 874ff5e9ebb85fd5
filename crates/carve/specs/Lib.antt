-- The core of carve: laws of the walk over the regions that are taken out, from crate keeping's.
pub mod PutBack
pub mod PutBackLaws
pub mod CarveCore
pub mod CarveCoreLaws
pub mod ListedRoomLaws
pub mod SplitReadyLaws
pub mod CarveWalk
pub mod CarveWalkLaws
