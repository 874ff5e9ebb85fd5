-- What the core of region cloning is proved by.
pub mod CloneCall
pub mod CloneCallLaws
pub mod CloneWay
pub mod CloneWayLaws
