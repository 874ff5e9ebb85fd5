-- What creation is proved by: refusals test by test, the plan, and what making it leaves.
pub mod RequestRefused
pub mod RequestRefusedLaws
pub mod Plans
pub mod PlansLaws
pub mod ReadyLaws
pub mod Made
pub mod MadeLaws
