-- What the core of protect is proved by.
pub mod ProtectCall
pub mod ProtectCallLaws
pub mod Protects
pub mod ProtectsLaws
