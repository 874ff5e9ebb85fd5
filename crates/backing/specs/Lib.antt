-- What the pool and the holders are proved by: what each call leaves, the free frames in one pass, searches, what a changed row changes,
-- the ways through the functions, and the laws of a machine whose pool is right.
pub mod BackingSteps
pub mod Pass
pub mod PassLaws
pub mod FreeRunLaws
pub mod FreeSearchLaws
pub mod CoveredLaws
pub mod PoolsLaws
pub mod BackingWayLaws
pub mod Ready
pub mod BackingLaws
pub mod HoldersLaws
